-- `Promises` is the page for users of this crate; the others hold the work behind the contracts.
pub mod Scanning
pub mod Aiming
pub mod Measuring
pub mod Promises

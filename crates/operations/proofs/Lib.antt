-- `Promises` is the page for users of this crate; the others hold the work behind it.
pub mod Promises
pub mod Placing
pub mod Doing
pub mod Cases

-- `Promises` is the page for users of this crate; the others hold the work behind it.
pub mod Answering
pub mod Inputs
pub mod Entering
pub mod Leaving
pub mod Reporting
pub mod Settling
pub mod Promises

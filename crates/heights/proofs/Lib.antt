-- `Promises` is the page for users of this crate; the others hold the work behind it.
pub mod Storing
pub mod Turning
pub mod Promises

-- `Promises` is the page for users of this crate; the others hold the work behind it.
pub mod Lifting
pub mod Looping
pub mod Promises

-- `Promises` is the page for users of this crate; the other holds the work behind it.
pub mod Promises
mod Moving

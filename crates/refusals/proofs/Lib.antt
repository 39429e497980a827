-- `Promises` is the page for users of this crate.
pub mod Promises

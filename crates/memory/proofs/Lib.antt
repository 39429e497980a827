-- `Promises` is the page for users of this crate; the others hold the work behind it.
pub mod Promises
pub mod Choosing
pub mod Testing
pub mod Spanning
pub mod Fetching
pub mod Searching

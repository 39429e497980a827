-- `Promises` is the page for users of this crate; the others hold the work behind it.
pub mod Promises
pub mod Numbering
pub mod Table
pub mod Decoding
pub mod Following
pub mod Walking
pub mod Holding

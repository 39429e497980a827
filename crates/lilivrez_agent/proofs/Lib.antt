-- `Promises` is the page for users of this crate; the others hold the work behind it.
pub mod Lending
pub mod Outcomes
pub mod Numbers
pub mod Promises

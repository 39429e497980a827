-- `Promises` is the page for users of this crate; the others hold the work behind it.
pub mod Promises
pub mod Cells
pub mod Following
pub mod Steps
pub mod Standing
pub mod Ending
pub mod Made
pub mod Recorded
pub mod WellFormed
pub mod Examples

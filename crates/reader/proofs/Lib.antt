-- `Promises` is the page for users of this crate; the others hold the work behind it.
pub mod Locating
pub mod Framing
pub mod Inside
pub mod Numbers
pub mod Splitting
pub mod Stepping
pub mod RecordWalk
pub mod ReadBack
pub mod Promises

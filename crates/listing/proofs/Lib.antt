-- `Promises` is the page for users of this crate; the others hold the work behind it.
pub mod Promises
mod Behind
mod Dividing
mod Inverse
mod Lining
mod Numbering
mod Plain
mod Outcomes
mod Parting

-- `Promises` is the page for users of this crate; the others hold the work behind it.
mod Decimals
mod Leading
mod Numbering
mod Same
mod Wording
pub mod Promises

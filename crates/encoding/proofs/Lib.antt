-- `Promises` is the page for users of this crate; the others hold the work behind it.
pub mod Promises
pub mod Reading
pub mod BigBytes
pub mod LittleNumbers
pub mod LittleReading
pub mod Writing
pub mod Putting
pub mod Ranges

-- `Promises` is the page for users of this crate; the others hold the work behind it.
pub mod Buffer
pub mod Decoding
pub mod Dividing
pub mod Fitting
pub mod Reading
pub mod Closing
pub mod Promises

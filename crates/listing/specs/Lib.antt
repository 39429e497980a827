-- The definitions of `listing`, in the order to read them. What is proved of them: proofs/Promises.antt.
pub mod Numbers
pub mod Line
pub mod Meant
pub mod Listing
pub mod Whole
pub mod Parts
mod Examples

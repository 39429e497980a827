-- The definitions of `phrases`, in the order to read them. What is proved of them: proofs/Promises.antt.
pub mod Numbers
pub mod Refused
mod Examples

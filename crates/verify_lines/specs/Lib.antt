-- The definitions of `verify_lines`, in the order to read them. What is proved of them: proofs/Promises.antt.
pub mod Verdict
pub mod Listed
pub mod Bytes
mod Examples

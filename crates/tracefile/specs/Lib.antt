-- The definitions of `tracefile`, in the order to read them. What is proved of them: proofs/Promises.antt.
pub mod Head
pub mod Frames
mod Examples

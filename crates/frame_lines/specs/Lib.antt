-- The definitions of `frame_lines`, in the order to read them. What is proved of them: proofs/Promises.antt.
pub mod Dump
pub mod Lines
mod Examples

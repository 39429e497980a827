-- The definitions of `hexadecimal`. What is proved of them: proofs/Promises.antt.
pub mod Hex
pub mod Told
mod Examples

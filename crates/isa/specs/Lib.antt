-- The definitions of `isa`, in the order to read them. What is proved of them: proofs/Promises.antt.
pub mod Classes
pub mod Document
pub mod Decode
pub mod Starts
pub mod Walk
pub mod Joining

-- The definitions of `encoding`. What is proved of them: proofs/Promises.antt.
pub mod BigEndian
pub mod LittleEndian
pub mod Written
pub mod Ranges

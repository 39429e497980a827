-- The definitions of `arithmetic`. What is proved of them: proofs/Promises.antt.
pub mod Words
pub mod Examples

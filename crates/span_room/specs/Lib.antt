-- The definitions of `span_room`. What is proved of them: proofs/Promises.antt.
pub mod Room
mod Examples

-- The definitions of `instruction_text`, in the order to read them. What is proved of them: proofs/Promises.antt.
pub mod Names
pub mod Text
mod Examples

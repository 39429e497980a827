-- The definitions of `refusals`, in the order to read them. What is proved of them: proofs/Promises.antt.
pub mod Numbers
pub mod Refusal
pub mod Tried

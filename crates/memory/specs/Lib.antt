-- The definitions of `memory`, in the order to read them. What is proved of them: proofs/Promises.antt.
pub mod Spans
pub mod Fetch
pub mod FirstZero
pub mod Joining

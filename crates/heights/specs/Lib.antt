-- The definitions of `heights`, in the order to read them. What is proved of them: proofs/Promises.antt.
pub mod Arrivals
pub mod Joining

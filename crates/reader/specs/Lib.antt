-- The definitions of `reader`, in the order to read them. What is proved of them: proofs/Promises.antt. `joining` is
-- only between the functions.
pub mod Located
pub mod Framed
pub mod Read
pub mod NextRecord
pub mod Answers
pub mod Joining

-- The definitions of `frames`, in the order to read them. What is proved of them: proofs/Promises.antt. `joining` is
-- only between the functions.
pub mod Buffer
pub mod Record
pub mod Division
pub mod Trailer
pub mod Frame
pub mod Writing
pub mod Example
pub mod Joining

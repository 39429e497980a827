-- Document 01's machine, in the order to read it. It speaks of lists and numbers and knows nothing of the code.
-- What is proved of it: proofs/Promises.antt.
pub mod Given
pub mod Words
pub mod Recording
pub mod Meaning
pub mod Machine
pub mod Run
pub mod Standing
pub mod Recorded

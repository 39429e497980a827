-- Tests of numbers. What is proved of them: proofs/Promises.antt.
pub mod Tests

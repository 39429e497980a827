-- The definitions of `run_lines`. What is proved of them: proofs/Promises.antt.
pub mod Outcome
pub mod Notes
mod Examples

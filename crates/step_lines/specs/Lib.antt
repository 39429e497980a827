-- The definitions of `step_lines`. What is proved of them: proofs/Promises.antt.
pub mod Step
mod Examples

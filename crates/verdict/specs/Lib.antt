-- The definitions of `verdict`, in the order to read them. What is proved of them: proofs/Promises.antt.
pub mod Fault
pub mod Pass1
pub mod Pass2
pub mod Pass3
pub mod Verdict
pub mod Acceptance
pub mod Examples

-- What joins the functions of src/, and this crate to `verifier`: nobody who reads the verifier's promises needs it.
pub mod Instruction
pub mod StraightCode
pub mod CodeWithJumps

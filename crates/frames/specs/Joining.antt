-- Between the functions of this crate and their callers: not to be believed.
pub mod Answers

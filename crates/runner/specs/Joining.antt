-- Between the functions of this crate.
pub mod Ends
pub mod Going

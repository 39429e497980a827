-- Between the functions of this crate: not to be believed.
pub mod Splitting

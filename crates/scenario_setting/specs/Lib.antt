-- The definitions of `setting`, and examples.
pub mod Settings
mod Examples

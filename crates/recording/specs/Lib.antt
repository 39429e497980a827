-- What the functions of `recording` do is the machine's (crate `machine`); here is only what joins them to it.
pub mod Joining

-- What the entries of `runner` give, in terms of document 01's machine.
pub mod Returned
pub mod Joining

-- The work behind the contracts of src/lib.rt, which are all that users of this crate cite.
pub mod Making
pub mod Appending

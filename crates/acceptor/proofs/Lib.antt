-- The work behind the contracts of this crate, in the order to read it.
pub mod Instructions
pub mod AlongStraight
pub mod AlongJumps

-- The work behind the contracts.
pub mod Telling

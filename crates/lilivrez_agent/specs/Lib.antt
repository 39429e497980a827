-- What the exported functions of `lilivrez_agent` give, as numbers.
pub mod Lent
pub mod RunValues

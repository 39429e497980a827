-- What the exported functions of `lilivrez_verifier` give.
pub mod VerdictNumbers

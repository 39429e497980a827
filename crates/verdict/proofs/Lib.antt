-- `Promises` is the page for users of a verdict, `Deciding` that for the code that decides one; the others hold the
-- work behind them.
pub mod Decoded
pub mod Faults
pub mod Along
pub mod Cases
pub mod Sound
pub mod Complete
pub mod Endings
pub mod Meaning
pub mod Promises
pub mod Deciding

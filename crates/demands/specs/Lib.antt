-- `Entry` says what a contract is, `Refusals` has document 01's numbers and who gives them, `Attained` an example of
-- each, `Stored` the numbers of a run.
pub mod Entry
pub mod Refusals
pub mod Attained
pub mod Stored

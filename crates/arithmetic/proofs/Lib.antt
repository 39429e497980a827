-- `Promises` is the page for users of this crate; the others hold the work behind it.
pub mod Promises
pub mod Signs
pub mod Shifts
pub mod ShiftedBits
pub mod Results

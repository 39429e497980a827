-- The definitions of `text_buffer`, in the order to read them. What is proved of them: proofs/Promises.antt.
pub mod Text
pub mod Decimal
pub mod Rows

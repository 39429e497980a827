-- The definitions of `line_words`, in the order to read them.
pub mod Words
pub mod Numbers
mod Examples

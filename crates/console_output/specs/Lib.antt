-- The definitions of `console_output`.
pub mod Options

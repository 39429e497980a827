-- The definitions of `expression_bytes`.
pub mod Expression
mod Examples

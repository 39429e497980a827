-- The definitions of `scenario`, in the order to read them.
pub mod Items
mod Examples

-- The definitions of `collection_notes`, in the order to read them.
pub mod Collection
pub mod Notes
mod Examples

-- The work behind the contracts of src/; other crates cite nothing of it.
mod Reading

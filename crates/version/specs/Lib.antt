-- The version of tool and archives.
pub mod Version

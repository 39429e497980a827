-- What `standing` tells of document 01's machine.
pub mod Seen
pub mod Joining

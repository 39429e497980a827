-- The definitions of `command_frames`.
pub mod Places
pub mod Refusals

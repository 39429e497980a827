-- The work behind the contracts of `command_frames`.
mod Ends

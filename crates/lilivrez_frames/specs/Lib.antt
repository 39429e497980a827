-- What the exported functions of `lilivrez_frames` give, as numbers.
pub mod FrameValues

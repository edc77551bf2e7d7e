pub mod Refusals
pub mod Frames

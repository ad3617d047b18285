-- The bytes of each call's frame.
pub mod Frames

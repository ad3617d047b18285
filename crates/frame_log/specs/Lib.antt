-- A log of frames: what the input has next, the outcome of a frame, and one step.
pub mod Next
pub mod Frames
pub mod Steps

-- Frames to calls, by their kinds.
pub mod Kinds
pub mod Parse

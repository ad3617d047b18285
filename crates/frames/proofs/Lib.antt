-- The laws of frames and replies.
pub mod Parsing
pub mod Writing

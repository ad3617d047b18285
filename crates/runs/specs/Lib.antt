-- Flags, runs of them, and the levels that are made of them.
pub mod Flagged
pub mod Levels

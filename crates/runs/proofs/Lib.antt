-- The laws of runs and levels.
pub mod Runs
pub mod Levels

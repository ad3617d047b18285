-- The counts of a log.
pub mod Counts

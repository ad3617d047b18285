-- The laws of the counts.
pub mod Counting

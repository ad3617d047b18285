-- The laws of counts, of entries and pairs, and of what the levels show.
pub mod Counts
pub mod Pairs
pub mod Shown

-- The entries of levels, and what the levels show.
pub mod Entries
pub mod Seen

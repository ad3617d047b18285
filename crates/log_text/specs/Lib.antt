-- The text of a log, and a part of it.
pub mod Text
pub mod Moves
pub mod Right

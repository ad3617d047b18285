-- The lines of a log, and what it is to put one into a buffer.
pub mod Text
pub mod Put

-- The laws of a log in pieces: one turn, and every run.
pub mod Turns
pub mod Dues
pub mod Invariant
pub mod Theorem

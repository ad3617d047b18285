-- A log in pieces: one turn of it, every run of it, and what is claimed of a run.
pub mod Streams
pub mod Runs

-- The laws of a step done to a record, and of what each call keeps.
pub mod Ways
pub mod Keeps

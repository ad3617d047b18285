-- The record's bytes, and what its functions promise.
pub mod Layout
pub mod Says
pub mod Stored
pub mod Highest

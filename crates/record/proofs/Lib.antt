-- The laws of the record's bytes.
pub mod Between
pub mod Places
pub mod Round
pub mod Stored
pub mod Refusal
pub mod Maximum
pub mod Halves
pub mod Parts

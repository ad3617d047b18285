-- The laws that the proofs cite.
pub mod Packing
pub mod Stars
pub mod Folds
pub mod Rows

-- The laws of a record's parts changed in place.
pub mod InPlace
pub mod Among
pub mod Parts
pub mod Sweeps

-- The laws of the loading test.
pub mod Pass
pub mod Marks
pub mod Few
pub mod Formed

-- The laws of a log's parts: what a step does however much of the input was read, and how parts make a whole.
pub mod Stays
pub mod Parts
pub mod Waits
pub mod Running
pub mod WrongFirst
pub mod Every
pub mod Theorem
pub mod Once

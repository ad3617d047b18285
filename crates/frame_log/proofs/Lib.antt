-- The laws of what the input has next, of frames and of steps.
pub mod Nexts
pub mod Firsts
pub mod Stepping

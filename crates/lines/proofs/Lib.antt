-- The laws of decimal numbers and of bytes put one after the other.
pub mod Digits
pub mod Puts
pub mod Lengths

-- What a turn of the log program is.
pub mod Turns

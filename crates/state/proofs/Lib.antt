-- The laws of states, of what the calls do to them, and that this is what the history says.
pub mod Valid
pub mod Below
pub mod Steps
pub mod Plain
pub mod View
pub mod Effected
pub mod Agrees

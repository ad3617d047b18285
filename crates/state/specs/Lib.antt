-- What each call does to a state.
pub mod States
pub mod View
pub mod Valid
pub mod Walked
pub mod Checks
pub mod Effects
pub mod Acts

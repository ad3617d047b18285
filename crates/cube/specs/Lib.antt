-- Set-up, the loading call and the frame call on bytes, where a list begins, and demand 3.
pub mod Called
pub mod Carried
pub mod Start
pub mod Run
pub mod Demand3

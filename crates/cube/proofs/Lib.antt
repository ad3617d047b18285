-- Demand 3: what a frame and a list of calls do to a record, and to the history. Then each way out of the code.
pub mod Framed
pub mod Heard
pub mod Room
pub mod Answers
pub mod Judge
pub mod Records
pub mod Loads
pub mod Lists
pub mod Theorem
pub mod Ways

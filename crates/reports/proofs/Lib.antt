-- The law of the reports.
pub mod Inside

-- The law of a call on a state by way of its record.
pub mod ByRecord

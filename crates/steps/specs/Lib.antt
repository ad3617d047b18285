-- What a step does to a record.
pub mod Carried

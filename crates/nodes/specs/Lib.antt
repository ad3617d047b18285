-- What the functions on a record's nodes ask.
pub mod Words
pub mod Lowest

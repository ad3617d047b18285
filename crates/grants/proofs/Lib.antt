-- The laws of requests, growths and releases on a record.
pub mod Read
pub mod Checked
pub mod Grants
pub mod Lost

-- What a request or a growth does to a record: its checks, and without a cause before 14.
pub mod Checked
pub mod Grants

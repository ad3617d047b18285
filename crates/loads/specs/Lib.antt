-- What the parts of the loading test find.
pub mod Pass
pub mod Marks

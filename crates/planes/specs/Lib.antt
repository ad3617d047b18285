-- The definitions that the contracts cite: which labels are free, rows without a free member, and labels packed in planes.
pub mod Rows
pub mod Planes

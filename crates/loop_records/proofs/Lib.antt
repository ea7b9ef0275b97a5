mod Columns
pub mod Recorded

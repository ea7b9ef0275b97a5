pub mod Corners
pub mod Rows
pub mod Columns
pub mod Moves
pub mod Loops

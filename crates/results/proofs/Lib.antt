pub mod Stores
pub mod Corners
pub mod Rows
pub mod Sizes
pub mod Whole
pub mod Given

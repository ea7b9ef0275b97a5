pub mod Sides
pub mod Meaning
pub mod Rungs
pub mod Corners
pub mod Counts
pub mod Rising

pub mod Points
pub mod Domains
pub mod Segments
pub mod Steps
pub mod Rungs
pub mod Sorting
pub mod Values

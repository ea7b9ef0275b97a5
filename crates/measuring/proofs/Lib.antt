pub mod Heads
pub mod Measured
pub mod Searches
pub mod RingsGiven
pub mod ReadLoops

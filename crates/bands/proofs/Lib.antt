pub mod Recut
pub mod Lengths
pub mod Walls
pub mod Clear
pub mod Demand

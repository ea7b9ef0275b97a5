pub mod Carried
pub mod Lengths
pub mod Turning
pub mod Decisions
pub mod Shifts
pub mod ReadRows
pub mod ByU

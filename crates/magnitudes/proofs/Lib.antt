pub mod Loops
pub mod Rings
pub mod Record
pub mod Closed
pub mod Whole
pub mod Bands
pub mod Theorem
pub mod Still

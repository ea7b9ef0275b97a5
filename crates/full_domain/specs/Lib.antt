pub mod Boundary
pub mod Values
pub mod Table

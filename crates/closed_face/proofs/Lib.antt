pub mod Loops
pub mod Result

pub mod Whole
pub mod Near
pub mod Pattern
pub mod Laws
pub mod Nearest

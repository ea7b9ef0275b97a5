pub mod Records
pub mod Surfaces

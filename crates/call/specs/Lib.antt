pub mod Face
pub mod Later
pub mod Paths
pub mod Judge
pub mod Demands
pub mod Values

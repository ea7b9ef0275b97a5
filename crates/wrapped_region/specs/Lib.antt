pub mod Rings
pub mod Ordered

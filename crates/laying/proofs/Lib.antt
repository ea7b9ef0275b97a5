pub mod Steps
pub mod EachHole
pub mod Reseaming
pub mod Begun
pub mod Starting

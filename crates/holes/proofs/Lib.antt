pub mod Picking
pub mod Later
pub mod Others

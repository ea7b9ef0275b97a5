pub mod Given
pub mod Rings
pub mod Strip
pub mod Band
pub mod Columns
pub mod Demand
pub mod Values

pub mod Count
pub mod Arcs

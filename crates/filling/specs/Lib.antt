pub mod Filled
pub mod Stages
pub mod Band
pub mod ResultLoops

pub mod BoxTable
pub mod OuterAmong
pub mod MovedHoles
pub mod AnyBoxes

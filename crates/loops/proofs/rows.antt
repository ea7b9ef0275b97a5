pub mod Area
pub mod Reading

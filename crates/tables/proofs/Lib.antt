pub mod Rows
pub mod ColumnLaws
pub mod PartRows
pub mod Unless
pub mod Steps
pub mod CornersFrom
pub mod LoopLaws
pub mod AnyRows

pub mod First
pub mod Face

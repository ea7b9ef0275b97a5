pub mod Front
pub mod Small

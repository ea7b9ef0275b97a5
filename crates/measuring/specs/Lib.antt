pub mod Head
pub mod LastWhere

pub mod Tables
pub mod BoxTables

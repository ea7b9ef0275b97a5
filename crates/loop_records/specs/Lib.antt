pub mod Record
pub mod Loops
pub mod Ring

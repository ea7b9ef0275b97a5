pub mod Turns
pub mod Choices
pub mod Starts

pub mod Numbers
pub mod Written
pub mod Call

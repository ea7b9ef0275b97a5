pub mod Laws
pub mod Exact
pub mod Terms
pub mod Cosine
pub mod Sine

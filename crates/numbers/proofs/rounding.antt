pub mod Laws
pub mod Meaning
pub mod Cast
pub mod Count
mod CastSigned

pub mod Starred
pub mod Faces
pub mod WholeSurfaces
pub mod Meanings

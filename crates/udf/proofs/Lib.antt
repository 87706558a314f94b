pub mod Words
pub mod Extents
pub mod Formats
pub mod Said
pub mod NewVolume

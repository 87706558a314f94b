pub mod Descriptors
pub mod Front
pub mod Reading

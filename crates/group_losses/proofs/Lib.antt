pub mod Gathering
pub mod Enduring

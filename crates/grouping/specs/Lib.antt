pub mod Groups
pub mod Steps
pub mod Phases
pub mod Served
pub mod Losses
pub mod Streams
pub mod OpenGroups

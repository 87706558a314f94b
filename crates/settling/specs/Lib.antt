pub mod Phases
pub mod Calls
pub mod Given
pub mod Gathered
pub mod Note
pub mod GatheringFile
pub mod Head

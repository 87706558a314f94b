pub mod Agrees
pub mod Calls
pub mod History
pub mod Opened
pub mod Past
pub mod Putting
pub mod Sessions

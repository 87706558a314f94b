pub mod Held
pub mod InMemory
pub mod Seen

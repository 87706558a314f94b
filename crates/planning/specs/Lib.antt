pub mod Changes
pub mod Entered
pub mod Last
pub mod Moves
pub mod Needs
pub mod Plan
pub mod Rewriting
pub mod Writings

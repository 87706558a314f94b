pub mod Commits
pub mod Full
pub mod Need
pub mod Needs
pub mod NextTable
pub mod Outside
pub mod Pieces
pub mod TableChange

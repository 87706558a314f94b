pub mod Rows
pub mod Spellings
pub mod Loops
pub mod Texts
pub mod Fields
pub mod Names
pub mod Ascii

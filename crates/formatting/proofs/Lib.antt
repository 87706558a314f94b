pub mod FormatJournals
pub mod NewVolumes
pub mod Beginnings

pub mod Number
pub mod Commands
pub mod Daemon

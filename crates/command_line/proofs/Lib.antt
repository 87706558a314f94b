pub mod Commands
pub mod Daemons

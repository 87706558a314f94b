pub mod FirstFault
pub mod Fault
pub mod Compressed
pub mod Dstring
pub mod Name
pub mod Label

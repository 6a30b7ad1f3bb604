pub mod Growth
pub mod Prepares
pub mod Opened

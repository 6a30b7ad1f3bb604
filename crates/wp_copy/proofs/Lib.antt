pub mod Ranges
pub mod Sources
pub mod Copies
mod Made

pub mod Reads
pub mod Decides
pub mod Registers
pub mod Values
pub mod AtOnce
pub mod Fresh
pub mod Rows

pub mod Encoding
pub mod Errors
pub mod Reading
pub mod Faults

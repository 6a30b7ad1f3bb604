pub mod Scan
pub mod Step

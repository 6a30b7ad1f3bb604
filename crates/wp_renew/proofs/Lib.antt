pub mod Renewed
pub mod Whole

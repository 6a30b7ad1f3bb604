pub mod Table
pub mod File
pub mod Errors
pub mod Borrowed
pub mod Reading
pub mod Judging
pub mod Walk
pub mod Faults

pub mod Record
pub mod Errors
pub mod Reading
pub mod Faults
pub mod Base
pub mod BaseReading
pub mod BaseFaults

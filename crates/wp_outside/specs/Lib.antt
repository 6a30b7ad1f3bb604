pub mod Disk
pub mod Faults
pub mod Images
pub mod Sink
pub mod Source
pub mod Whole

pub mod Counter
pub mod Fits
pub mod Images
pub mod MemDisk
pub mod MemSink
pub mod MemSource
pub mod Replay

pub mod KeyVersions
pub mod Kept
pub mod Memtable
pub mod Bounds
pub mod Borrowed

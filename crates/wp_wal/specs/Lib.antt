pub mod Spelling
pub mod Reading
pub mod Errors
pub mod Opening
pub mod Wal
pub mod Segment

pub mod Room
pub mod Reading
pub mod Replayed
pub mod Writes

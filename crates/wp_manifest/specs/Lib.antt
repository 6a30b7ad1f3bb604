pub mod Edit
pub mod Room
pub mod Errors
pub mod Reading
pub mod Spelling
pub mod Opening
pub mod Manifest

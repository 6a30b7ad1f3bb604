pub mod Decisions
pub mod Store
pub mod Sources
pub mod Shown
pub mod Present

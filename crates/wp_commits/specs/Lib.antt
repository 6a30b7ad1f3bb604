pub mod Bound
pub mod Notes
pub mod Making
pub mod Cleared
pub mod Ways
pub mod Passing
pub mod PairNotes

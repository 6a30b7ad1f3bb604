pub mod Keeping
pub mod Whole
pub mod Opened
pub mod Crashed
pub mod Stored
pub mod TopLemmas
pub mod Uncalled

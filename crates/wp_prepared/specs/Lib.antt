pub mod DelayedSet
pub mod Least
pub mod Passed
pub mod Queue

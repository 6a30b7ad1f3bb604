pub mod OpeningLemmas
pub mod Opened

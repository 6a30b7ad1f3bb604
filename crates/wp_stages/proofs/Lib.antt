pub mod Renews
pub mod StageLemmas

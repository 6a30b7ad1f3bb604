pub mod DeviceLemmas
pub mod FileLemmas
pub mod SetLemmas
pub mod StageLemmas

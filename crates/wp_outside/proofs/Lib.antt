pub mod Moments
pub mod ReadLemmas
pub mod WriteLemmas

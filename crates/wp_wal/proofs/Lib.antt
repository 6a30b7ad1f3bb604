pub mod EntriesLemmas
mod Causes
pub mod AppendLemmas
pub mod LawLemmas
pub mod CutLemmas
pub mod Told
pub mod SegmentLemmas
pub mod OpeningLemmas

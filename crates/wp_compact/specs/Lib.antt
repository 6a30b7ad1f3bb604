-- what callers see
pub mod Calls
-- what the rounds of a compaction know, for their own proofs
pub mod Decided
pub mod Compaction

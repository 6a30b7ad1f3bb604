-- A seat that is the only one: what each call then answers that makes entries or tables. A file for each kind of call.

pub mod Putting
pub mod Logged
pub mod Writes
pub mod Decisions
pub mod Settling
pub mod TablesFound
pub mod Flushing
pub mod Retained
pub mod Compacting
pub mod Renewing

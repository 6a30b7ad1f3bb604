pub mod Based
mod HistoryLemmas
pub mod Order
pub mod Places
pub mod Presence
mod Stores
mod Shows
mod Together

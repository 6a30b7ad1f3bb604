pub mod Searches
pub mod Pending
pub mod Held
pub mod Changes
pub mod ListFacts
pub mod OfferedSteps
pub mod Owning
pub mod Places
pub mod NoneWaits
pub mod Stores
pub mod LiveNumbers
pub mod KeysOf
mod Leading
mod Legal
mod Tables
mod Writers
mod Runs

-- A seat that is the only one: what each call then answers is told by the seat's own doings. A file for each outcome of each call.

pub mod Published
pub mod Worlds
pub mod Seated
pub mod Quiet
pub mod Kept
pub mod Names
pub mod Changing
pub mod Keys
pub mod Staged
pub mod Locking
pub mod Board
pub mod ReadKeys
pub mod Snapshots
pub mod Stores

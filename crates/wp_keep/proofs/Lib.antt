mod Order
mod Any
mod Committed
mod Noted
mod Ends
mod Lookups
mod Undone
pub mod Covers
pub mod Choosing
pub mod Tests

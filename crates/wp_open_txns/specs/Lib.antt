pub mod Txn
pub mod Actors
pub mod Turns
pub mod Under
pub mod Calls
pub mod Keys

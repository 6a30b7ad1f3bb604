pub mod Words
pub mod Moves
pub mod Shows
pub mod Plays
pub mod Ends
pub mod Bound
pub mod Knows
pub mod Accounts

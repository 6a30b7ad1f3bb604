pub mod Status
pub mod Use
pub mod Unopened
pub mod Written

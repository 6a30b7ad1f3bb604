pub mod New
pub mod Room
pub mod Lists
pub mod Seating

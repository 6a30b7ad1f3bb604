pub mod Changes
pub mod KeptNumbers
pub mod Rooms
pub mod Sets
pub mod Shown

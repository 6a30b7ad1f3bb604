pub mod Idle
pub mod Stands
pub mod Ends
pub mod Complete

pub mod SoFar
pub mod Over
pub mod Came
pub mod Each
pub mod Explained
pub mod Idle

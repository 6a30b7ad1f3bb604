pub mod Damage
pub mod Tables
pub mod Parts
pub mod Refused
pub mod Shown

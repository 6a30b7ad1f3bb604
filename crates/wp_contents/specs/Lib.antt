pub mod Devices
pub mod Opens

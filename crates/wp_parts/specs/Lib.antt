pub mod Log
pub mod Stock
pub mod VersionSet
pub mod Installs
pub mod Parts
pub mod Devices

pub mod Maps
pub mod NameMaps
pub mod Held
pub mod Bits
pub mod Apart
pub mod StayNoted
pub mod Acting
pub mod Opened

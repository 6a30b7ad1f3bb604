pub mod Flushed
pub mod OneMerge
pub mod Fronts
pub mod NewestOfKey
pub mod Taken
pub mod NextKey
pub mod NextVersion

pub mod Device
pub mod Set
pub mod Changes
pub mod Install

pub mod Filled
pub mod OpenedFrom

pub mod KeyVersions
pub mod Listed
pub mod Between
pub mod NextVersion

pub mod Line
pub mod Told
pub mod CopyCall
pub mod Amiss

pub mod Amid
pub mod Copy
pub mod Image
pub mod Looking
pub mod Target
pub mod Written

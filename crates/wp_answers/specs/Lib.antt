pub mod Fresh
pub mod Replies
pub mod Settling
pub mod Uncalled

pub mod Alone
pub mod Holdings
pub mod Fresh
pub mod Replies
pub mod Agrees
pub mod Answers
pub mod Ends

pub mod Keys
pub mod Made
pub mod Still
pub mod GoesOn
pub mod Adding
mod KeyTaken
mod Pinned
mod Freed
mod Taking
mod Looked
mod UndecidedAt

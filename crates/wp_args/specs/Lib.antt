pub mod CommandSet
pub mod Choice
pub mod CopyChoice

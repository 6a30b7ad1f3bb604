pub mod Transcript
pub mod Answers

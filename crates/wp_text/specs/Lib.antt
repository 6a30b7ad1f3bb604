pub mod Lines
pub mod Said
pub mod Answered
pub mod Names
pub mod Grammar
pub mod Faults
pub mod Reading

pub mod NamesLemmas
pub mod StatementLaws
pub mod LineLaws
pub mod Placing
pub mod ScriptLaws
pub mod AsRead
pub mod CommandCount
pub mod Loop

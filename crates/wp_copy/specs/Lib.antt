pub mod Rows
pub mod RowsSince
pub mod CopyAt

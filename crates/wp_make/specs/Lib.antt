pub mod Generator
pub mod Totals
pub mod Summary

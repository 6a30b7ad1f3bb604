pub mod History
pub mod Holders
pub mod LastChanges
pub mod Numbers
pub mod Outline

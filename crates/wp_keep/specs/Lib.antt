pub mod Keep
pub mod Newer
pub mod MayGo
pub mod Chosen

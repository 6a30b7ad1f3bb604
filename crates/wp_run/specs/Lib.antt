pub mod Limits
pub mod Base
pub mod Crash
pub mod Met
pub mod Headline
pub mod Serving
pub mod Run

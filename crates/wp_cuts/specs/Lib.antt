pub mod Cut
pub mod Agree
pub mod LegalCut
pub mod Reopened
pub mod Copied
pub mod Kept
pub mod UpTo

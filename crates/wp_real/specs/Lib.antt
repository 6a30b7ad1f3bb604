pub mod Opaque
pub mod Stdin

pub mod Packing
pub mod ReaderOrder

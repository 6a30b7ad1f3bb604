pub mod KeptNumbers
pub mod Room

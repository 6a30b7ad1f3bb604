pub mod Parts
pub mod Client
pub mod Machine
pub mod Effect
pub mod Pairs
pub mod HeldTables
pub mod Marks
pub mod Apart

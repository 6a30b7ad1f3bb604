mod NextBlock
mod Spelled

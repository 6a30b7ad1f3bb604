pub mod Undos
pub mod OneWay
pub mod Stages
pub mod BothOpen
pub mod OneFault
pub mod Opened

pub mod Goes
mod Each
pub mod OneName
mod Committed
mod MayPut
mod UnderLog
mod DirectWrites
mod BeforeLog
mod Ends
mod GroupEnds
mod RollsBack
mod Recorded

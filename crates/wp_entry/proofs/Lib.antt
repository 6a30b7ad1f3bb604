pub mod Grammar
pub mod Spelled
pub mod FaultLemmas
mod BaseGrammar
mod BaseFaultLemmas
pub mod BaseLoop
mod CommitsLoop

pub mod Order
pub mod Loop
pub mod WordLemmas
pub mod ChangeLemmas

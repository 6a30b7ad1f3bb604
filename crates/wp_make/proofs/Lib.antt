pub mod WordLemmas
pub mod GeneratorLemmas
pub mod Apart

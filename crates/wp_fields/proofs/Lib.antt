pub mod Results
pub mod FieldLemmas

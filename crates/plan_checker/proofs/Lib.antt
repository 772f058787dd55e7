pub mod FieldLemmas
pub mod DocumentLemmas

pub mod Soundness
pub mod ValuesLemmas
pub mod FieldsLemmas
pub mod KeywordPlaceLemmas
pub mod FaultlessLemmas
pub mod FormsLemmas
pub mod ReadLemmas

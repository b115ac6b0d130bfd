pub mod TreeTestsLemmas
pub mod EntriesLemmas

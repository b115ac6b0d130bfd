-- What a reader must believe: when a document is valid for a schema, and when one schema includes another.
pub mod Equality
pub mod Matching
pub mod Names
pub mod Validity
-- Validity over the entries that a schema is read as, for validators and for tables of positions.
pub mod EntryValidity

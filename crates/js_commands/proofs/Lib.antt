-- Files that have the bytes that were read.
pub mod FileLemmas
-- `include`: from what files are read as to what they come to, and what that means.
pub mod IncludeOutcomeLemmas
pub mod IncludeMeaningLaws
-- `valid`: validity over the entries of a schema that is read is validity for its value; then as for `include`.
pub mod ValidEntriesLemmas
pub mod ValidOutcomeLemmas
pub mod ValidMeaningLaws
-- `check`: as for `include`.
pub mod CheckOutcomeLemmas
pub mod CheckUnrejectedLemmas
pub mod CheckMeaningLaws
-- `norm`: what position 0 of a schema's table means, and from what a file is read as to what it comes to.
pub mod NormTableLemmas
pub mod NormOutcomeLemmas
-- `gen`: from what the values of a family are read as to what they come to.
pub mod GenOutcomeLemmas
-- What the callers of this crate cite of the crate below.
pub use Rattle.js_inclusion.proofs.MeaningLaws
pub use Rattle.js_inclusion.proofs.NothingLaws

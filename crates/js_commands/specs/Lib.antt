-- What a reader must believe: what the files of each command come to, and what that means for their values.
pub mod ReadEntries
pub mod IncludeOutcome
pub mod IncludeMeaning
pub mod ValidOutcome
pub mod ValidMeaning
pub mod CheckOutcome
pub mod CheckMeaning
pub mod CheckUnrejected
pub mod NormOutcome
pub mod GenOutcome
pub mod GenMeaning
-- What the callers of this crate cite of the crates below: how schemas compare, verdicts on files, and how far one is
-- read where a line is rejected.
pub use Rattle.js_inclusion.specs.Comparison
pub use Rattle.js_inclusion.specs.Meaning
pub use Rattle.js_certificate.specs.FileVerdicts
pub use Rattle.js_certificate.specs.ReadBehind
-- What the calls answer.
pub mod IncludeSaying
pub mod ValidSaying
pub mod CheckSaying
pub mod NormSaying
pub mod GenSaying

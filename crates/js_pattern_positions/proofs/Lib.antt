-- Counts that are cut at a number.
pub mod Counts
pub mod FlagsLemmas
pub mod BitsLemmas
-- Two sets, word by word.
pub mod SetLemmas
-- Lists of trees.
pub mod Items
-- What a tree makes of a state: laws of going through its copies one by one.
pub mod Through
pub mod Quiet
pub mod CopiesLemmas
pub mod ChoicesLemmas
pub mod DoneLemmas
pub mod OptionsLemmas
pub mod EndsSteps
pub mod AdvanceSteps
pub mod RunSteps

pub mod ContentsLemmas
-- A shelf over memory counts the names that aren't there.
pub mod MissesLemmas
-- For the calls that only proofs read.
mod Walks

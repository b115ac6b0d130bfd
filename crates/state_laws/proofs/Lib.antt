-- Worked examples.
pub mod Examples
-- Lists of places as sets.
pub mod Places
-- Matches without an end assertion, and pieces of a repeated tree.
pub mod Pieces
-- Lists of flags, one a position.
pub mod Flags
-- Where a match ends.
pub mod Ends
-- Which positions read one more character.
pub mod Next
-- The state of the empty word, and after one more character.
pub mod States
-- The test on atoms says whether they are equal.
pub mod SameAtoms
-- Characters that no position's set distinguishes.
pub mod Alike
-- Lists of flags, joined position by position.
pub mod FollowSetsLemmas
-- Whether a match can end is a union.
pub mod EndsUnion
-- What may follow one of two sets of positions is what may follow the one or the other.
pub mod FollowsUnion
-- What reads a character is what may follow, where the set has it.
pub mod Sets
-- Of nothing that was read, nothing ends and nothing follows.
pub mod Nothing
-- The union over the positions that were read.
pub mod Each
-- Worked examples of unions.
pub mod UnionExamples

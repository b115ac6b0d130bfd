-- Where a match can end: the computed places are those of the relation.
pub mod Decides
-- What a list of ranges has, and that it is the only one.
pub mod Members
-- What a set has once a range is added, and what its complement has.
pub mod Sets
pub mod Gaps
-- How many members a set has.
pub mod Counts
-- The test on trees says whether they are equal.
pub mod SameTrees
-- Worked examples.
pub mod Examples

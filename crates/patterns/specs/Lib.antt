-- What a reader must believe: which characters a set has, what a pattern's tree is, and what it matches.
pub mod CharSet
pub mod Tree
pub mod Match
-- Matching by computing: where a match can end, and whether a word has one.
pub mod Decision
-- When two trees are the same, as a test.
pub mod SameTree

-- The cells of names that code's cells stand for.
pub mod View
-- How many words there are, exactly.
pub mod Counting
-- Used inside: words of one state have one vector.
pub mod Groups
-- The rows at which each atom is true.
pub mod Truths
-- Flags of rows, as they are written; and as words of bits.
pub mod Told
pub mod FlagWords
-- The rows that are led to, and the lengths of their words.
pub mod Lengths

-- What a reader must believe: which patterns match in which words.
pub mod Matching
-- Where matches of a pattern can end.
pub mod Places
-- Where runs of characters of one set end.
pub mod Runs
-- Trees of which each match begins at the start of the word.
pub mod Anchors
-- The characters of which a word must begin with one.
pub mod First

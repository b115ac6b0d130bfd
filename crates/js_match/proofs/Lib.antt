-- Steps from places to places.
pub mod LeadsLaws
-- Rounds of a repeat over sets of places.
pub mod Rounds
-- Tables of marks.
pub mod Marks
-- What each loop of the walk keeps.
pub mod WalkLaws
-- A pattern is found where the walk ends.
pub mod FoundLaws
-- Runs of characters of one set.
pub mod RunLaws
-- Characters that a word must begin with.
pub mod FirstLaws

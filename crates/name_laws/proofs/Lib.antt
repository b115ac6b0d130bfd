-- What holds by the truths of a word's atoms holds of the word.
pub mod NameLaws
-- Which atoms are known where those of a position are.
pub mod KnownLaws
-- What holds of a name and its atoms, step by step.
pub mod Unfolded
-- Positions at names one after another: how they are found, and what their room gives.
pub mod Tests
mod Mentions
pub mod Searching
pub mod Unseen
pub mod Ordering
pub mod Telling

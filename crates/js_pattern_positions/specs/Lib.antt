-- What a contract sees of a set of positions: flags, kept as bits of words.
pub mod Marks
pub mod Bits
pub mod Both
-- The number of positions of a pattern.
pub mod Counted
-- The copies of a repeated tree, gone through one by one.
pub mod Walk
pub mod Choices
-- Which positions a match needs.
pub mod Done

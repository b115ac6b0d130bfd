-- The grammar on worked examples.
pub mod Examples
-- Runs of digits, read one digit on.
pub mod Runs
pub mod Within
-- Sorted ranges that are joined are a set.
pub mod Joins
pub mod SetOps
pub mod Characters
pub mod Items
pub mod Steps
-- Trees that are in a list.
pub mod TreeLists
-- A text has a tree or a first fault, and want of memory is none.
pub mod NoMemory
pub mod One
-- The order in which words are made, by spans of characters.
pub mod Spans

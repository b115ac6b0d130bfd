-- The words of the expanders that tests have.
mod OneWord
mod SmallWords
-- Tables and sets that tests make.
mod Truths
mod TestSets
-- Names of cells.
mod TestNames

-- Lines and numbers that are added one by one.
pub mod Adding
-- A row is named by an earlier one, whose word is shorter by one letter.
pub mod RowLengths
-- The rows of an automaton are those that are stated.
pub mod OwnRows
-- Numbers of words that lead into a cell, row by row.
pub mod CellLabels
-- The lines of a set of which no word is found are dead.
pub mod DeadLines

-- The words that lead from a row to rows that are marked.
pub mod RowWords
-- What a contract sees of a counter of words.
pub mod CounterView
-- Labels of rows, edges between them, and rows from which marked rows are reached.
pub mod Labels
pub mod Edges
pub mod Reaching
-- The steps that first name rows.
pub mod Steps
pub mod Naming
-- Runs of characters of one class.
pub mod Runs
-- Numbers of words of one length, and the words that are found by them.
pub mod Counts

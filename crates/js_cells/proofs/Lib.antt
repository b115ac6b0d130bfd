-- Key lemmas: `words_in` of `RowMarks`, `counted` of `KeptCells`, `level_ends` of `Levels`, `first_long` of `CellRows`,
-- `words_truth` of `TruthLaws`, `told_more` of `ToldLaws`, `words_are` of `FlagWordLaws`.
pub mod RowMarks
pub mod KeptCells
pub mod RowLengths
pub mod Levels
pub mod CellRows
pub mod FlagWordLaws
pub mod ToldLaws
pub mod TruthLaws
pub mod TellingLaws
pub mod Numbering

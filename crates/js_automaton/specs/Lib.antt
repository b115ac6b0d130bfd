-- The letters of lists of words.
pub mod Letters
-- What a contract sees of classes.
pub mod Dividing
pub mod ClassView
pub mod Pieces
-- The beginnings of listed words, numbered.
pub mod Trie
-- Atoms as they are kept.
pub mod Parts
-- The state of a word for a list of atoms.
pub mod Tuple
pub mod Follows
pub mod Faults
pub mod TuplesView
-- States as keys of a table.
pub mod Keys
-- Rows and their numbers.
pub mod Building
pub mod RowsProp
pub mod Told
pub mod AutomatonView

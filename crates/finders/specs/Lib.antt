-- What a reader must believe: atoms that are taken once, the rows of atoms as a function, and the limits of an
-- automaton.
pub mod Once
pub mod RowsFound
pub mod Limits
-- The words that pass a test, in order; the word that is found for a set at strings; and the cells of its names.
pub mod WordsFound
pub mod Strings
pub mod Names

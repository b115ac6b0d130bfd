-- What a reader must believe: the numbers of atoms, and what literals say of names by them.
pub mod AtomNumbers
pub mod Saying
-- Rows by what is said of their words.
pub mod Vectors
-- Two lists of atoms are the same in one way.
pub mod AtomCode

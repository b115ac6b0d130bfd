-- What a reader must believe: what is decided of a root, and of two positions of a table.
pub mod Decision
-- What each verdict means of all documents, and of the goals that were explored.
pub mod Meaning

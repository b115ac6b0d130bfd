-- What a reader must believe: which names a literal speaks of, and the cells of names of which a set says the same.
pub mod WordsInOrder
pub mod Cells

-- What a reader must believe: of which atoms a position is made at a name, when it holds there by their truths, and the
-- atoms of what the literals of a set say of names, in the order in which they are always taken.
pub mod NameTruth
pub mod NameAtoms

-- What a reader must believe: what each kind of position requires of a document, which lists are tables, and what is
-- required of names.
pub mod Position
pub mod Holds
pub mod NameFormula

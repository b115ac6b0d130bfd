-- What a reader must believe: what is built of atoms, and of which atoms it is.
pub mod Outcomes
pub mod KeptView
-- Used inside: that something was built of atoms is a fact.
pub mod Props

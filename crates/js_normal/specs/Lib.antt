-- What a reader must believe: the tree that a pattern's text has.
pub mod PatternTrees
-- Used inside: tables that are made entry by entry, and which positions can be moved up.
pub mod Tables
pub mod Room

-- What a reader must believe: how two schemas compare, and what that means for the values that they are read from.
pub mod Comparison
pub mod Meaning
-- What is judged of a certificate's file.
pub mod Judging
-- The schema for which no document is valid.
pub mod Nothing
-- Used inside: schemas whose core tables can be joined.
pub mod Tables

-- What a reader must believe: which keywords a schema has and what is required of their values, which schemas lie in
-- it, the walk from schema to schema, its first fault, and the entries that a schema is read as.
pub mod Places
pub mod Keyword
pub mod SubSchemas
pub mod Fault
pub mod Walk
pub mod Weight
pub mod Reading
pub mod Entry
pub mod Entries
-- Which lists of entries are tables of a schema, whatever value they were read from.
pub mod Schema
-- Which of them lead in a circle, which cycle is reported, and ranks where there is none.
pub mod Guarded

-- What a reader must believe: how two tables are joined into one, and which tables have no typed positions.
pub mod Join
pub mod Plain

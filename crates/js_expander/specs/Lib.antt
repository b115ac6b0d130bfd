-- What a reader must believe: what is found for the branches of a table, and so the expansions of its goals.
pub mod Found
-- What answers stand for.
pub mod Answers
-- Internal: places that are counted.
pub mod Places
-- That an expander over a table keeps the laws of expanders.
pub mod Laws

-- What a reader must believe: the entries that the program's values stand for.
pub mod View
pub mod SchemaView
pub mod Patterns
-- Groups without keywords.
pub mod NoKeywords
-- Internal: trees as a test.
pub mod TreeTests

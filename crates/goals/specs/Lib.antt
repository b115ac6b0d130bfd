-- What a reader must believe: what a document meets, which choices a signed position has, which goal a list forms,
-- and the tree of a set at a kind with its ends.
pub mod Signed
pub mod Choices
pub mod Goal
pub mod Tree

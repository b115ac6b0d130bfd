-- What a reader must believe: the alternatives of a branch at each kind, the expansion of a goal, and the document of
-- an alternative.
pub mod SortedMembers
pub mod Leaves
pub mod Expansion
pub mod DocumentOf

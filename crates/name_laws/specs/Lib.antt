-- What a reader must believe: what a plan is, by which the truths of positions at a name are found one after another,
-- and which lists of atoms mention the same ones in the same order.
pub mod Plans
-- Used inside: how the positions that a position depends on are found, and what is in a plan's room.
pub mod Searches
pub mod Rooms

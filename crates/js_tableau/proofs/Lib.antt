-- The set of a walk: its members, their places, what waits, and whether a choice is in it.
pub mod Covering
pub mod Kept
pub mod Settling
pub mod Having
pub mod Searched
-- The step at a set, the steps that follow it, and those that are left.
pub mod Nexts
pub mod Unfolded
pub mod Counting
pub mod Remaining
-- The branches of a tree.
pub mod Branching
-- Positions and their places.
pub mod Places
pub mod Planned
-- A chain of positions, for tests.
pub mod Chains

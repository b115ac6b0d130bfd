-- Lines that are added, and those that are left.
pub mod Adding
-- A tree's lines, step by step.
pub mod Walking
-- The lines of a set that no object meets, piece by piece.
pub mod Members
-- Cells of which a bound is stated.
pub mod Capped
-- The lines of a goal, and of a set, none of whose alternatives is met are dead.
pub mod DeadLines

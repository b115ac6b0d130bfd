-- What is answered for a branch at objects, and what its alternatives mean.
pub mod Leaves
-- What the steps to a leaf have found.
pub mod Steps
-- The frame that a frame of objects stands for.
pub mod FrameView
-- The faults of automata and of plans as faults of objects.
pub mod Faults
-- Used inside: which tests the names of each cell pass, and which demands they may serve.
pub mod Passing

-- The faults of plans as faults of arrays.
pub mod Faults
-- The frame that a frame of arrays stands for.
pub mod FrameView
-- What is answered for a branch at arrays, and what its alternatives mean.
pub mod Leaves

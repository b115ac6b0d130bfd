-- The frame that a frame of arrays stands for.
pub mod FrameView
-- What contracts see of the arrays of a set.
pub mod ArrayDuties

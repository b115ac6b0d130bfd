-- What a reader must believe: what is still to be shown at objects.
pub mod View
pub mod StageView
pub mod OpenView
-- Cells by rows, the bounds that were stated, and the frame over them.
pub mod Told
pub mod Cells
pub mod Bounds
pub mod FrameView

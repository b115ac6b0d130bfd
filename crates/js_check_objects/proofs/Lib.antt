-- Key lemmas: `frame_same` of `Frames`, `are_told` of `RowCells`, `run_alone` of `Runs`.
pub mod RowCells
pub mod Caps
pub mod Frames
pub mod Runs
pub mod Lookups
pub mod Enough
pub mod Stated

pub mod Joins
pub mod SizeLaw
pub mod TableRuns

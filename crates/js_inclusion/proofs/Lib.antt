pub mod Finds
pub mod ReadValues
pub mod SearchLaws
pub mod MeaningLaws
pub mod NothingLaws
pub mod TableLaws

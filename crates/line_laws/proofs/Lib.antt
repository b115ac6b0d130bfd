pub mod PieceLaws
pub mod NumberLaws
pub mod ReadLaws
pub mod LineLaws
pub mod ReaderLaws

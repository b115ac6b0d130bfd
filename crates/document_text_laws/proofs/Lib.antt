pub mod StringLaws
pub mod NumberLaws
pub mod PartLaws
pub mod LineLaws
pub mod ReadLaws

pub mod AnswerLaws
pub mod BlockLaws
pub mod CommonMultiples
pub mod Deciding
mod Examples
pub mod Finding
pub mod Least
pub mod ListedLaws
pub mod ListsBorrowed
pub mod MarkLaws
pub mod PlaceLaws
pub mod Searching
pub mod SieveLaws
pub mod Sizes

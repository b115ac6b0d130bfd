-- What conditions that name one another say of a document.
pub mod Levels
-- Conditions among which some are closed: what the laws require of them.
pub mod Within

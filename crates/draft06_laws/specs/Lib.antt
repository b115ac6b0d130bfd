-- What the laws require of a table: ranks that fall in place.
pub mod Ranks

pub mod Changes
pub mod Counting
pub mod Ready
pub mod Mentioning
pub mod Marking

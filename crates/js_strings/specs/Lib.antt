-- What the answers say.
pub mod Answers

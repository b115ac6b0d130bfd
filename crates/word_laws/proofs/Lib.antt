pub mod Mentions
pub mod Rows
pub mod Classes
pub mod States
pub mod Firsts
pub mod StateSteps
pub mod Places
pub mod ClassLaws
pub mod RowLaws
mod WordExamples

pub mod Verdicts
pub mod Full
pub mod Few
pub mod Decisions
pub mod SameWords
pub mod Answer

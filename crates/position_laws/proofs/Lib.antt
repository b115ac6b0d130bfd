pub mod SameKind
pub mod Parts
pub mod Counts
pub mod Asks
pub mod Tables
pub mod Joined
pub mod Plainness
mod Examples

mod Sums
pub mod TextWords

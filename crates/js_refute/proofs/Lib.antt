pub mod Citing
pub mod Growing
pub mod Writing
pub mod Numbers
pub mod GoodBytes

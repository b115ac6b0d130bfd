pub mod Grow
pub mod RowsFound
pub mod Once
mod Literals
pub mod Wanted
pub mod Strings
mod InOrder
pub mod RowOrder
pub mod FirstRow
pub mod Names

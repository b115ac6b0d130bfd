pub mod Leading
pub mod FirstWords
pub mod Counting
pub mod RowTables
pub mod RightCells

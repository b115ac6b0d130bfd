-- What a reader must believe is in `verdicts`, and in `Standing`, what has become of lines that were taken. The others
-- say what the parts of a checker have left to show.
pub mod Standing
pub mod Faults
pub mod Duties
pub mod LeafView
pub mod TreeView
pub mod EntryView
pub mod Entries
pub mod JudgeView
pub mod Props
pub mod CheckerView

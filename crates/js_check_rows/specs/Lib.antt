-- What a reader must believe: what is seen of rows, and what faults say.
pub mod RowsView
pub mod RowTaking
pub mod Taking
pub mod Labels
pub mod Rules
-- Rows that were mentioned, and their words; lines of targets; classes.
pub mod Mentions
pub mod MentionsView
pub mod Lines
pub mod Widths
pub mod Faults

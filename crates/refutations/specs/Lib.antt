-- What a reader may want to know: which lines refute a goal, and which goals a certificate lists. That they are good is
-- a law.
pub mod TreeLines
pub mod StatedRows
pub mod StringLines
pub mod PlanTreeLines
pub mod ObjectLines
pub mod GoalLines
pub mod Expansions
pub mod Listing
pub mod Refutation

-- What a reader must believe: what is counted of alternatives, when one is ready, how many places there are, and which
-- places name a goal.
pub mod Counts
pub mod Mentioned
-- Internal: which places were counted, said by a test; and what is left of an alternative.
pub mod Marked
pub mod Left
pub mod First

-- What a reader must believe: what signed positions require of whole numbers, the group that they make together, and
-- the number that is found for a set.
pub mod SetGroup
pub mod NumbersOf

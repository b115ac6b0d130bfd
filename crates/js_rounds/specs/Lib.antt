-- What a reader must believe: what rounds hold before they are run and after, and what an answer says; what the
-- document of a goal means.
pub mod State
pub mod Meets
-- Internal: a round on the way, what answers say of a round, what runs stand for, and the slots that these need.
pub mod Slots
pub mod Sorted
pub mod Waking
pub mod Seen
pub mod Spread

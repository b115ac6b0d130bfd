-- What contracts see of plans that are still to be shown empty: whose they are, how far a plan reaches and what it
-- places, what entries leave of rooms, and the duties.
pub mod FormView
pub mod Reach
pub mod Rooms
pub mod Counts
pub mod Slots
pub mod OpenDuties

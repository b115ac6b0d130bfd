-- What contracts see of the walk through the plans: whose they are, how far a plan reaches and what it places, the
-- first that is cited, and the lines that are left.
pub mod FormView
pub mod Reach
pub mod Kept
pub mod Cited
pub mod Left

-- What a reader must believe: what a frame requires, which plans serve its demands, the frames of sets at arrays and at
-- objects, and the fillers of a plan. `PlanLines` says what lines of a certificate show of a plan.
pub mod Frame
pub mod Plan
pub mod PlanLines
pub mod ArrayFrame
pub mod ObjectFrame
pub mod Fillers

-- What a reader must believe: which branches a list stands for, and which a walk has
-- still to give (`branches_left` of `BranchWalks`); which step of a tree a step of the program stands for
-- (`SetStep`, and `step_view` of `Walks`), and that a tree gives the first of the steps that it has left (`left` and
-- `Tells` of `Progress`).
pub mod Branches
pub mod BranchWalks
pub mod SetStep
pub mod Walks
pub mod Progress
-- Used inside: the least of a list, and positions with their ranks.
pub mod Least
pub mod NamePlans

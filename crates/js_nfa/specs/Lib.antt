-- What a contract sees of an automaton and of its states.
pub mod View
-- What it sees of an atom.
pub mod AtomView
pub mod AtomFed
-- Follow sets of positions, by which a state goes on without a walk.
pub mod FollowSets
pub mod AreFollowSets
-- Columns of positions, one a character, and what may follow a state.
pub mod Columns
-- States as keys of a table.
pub mod Fed
pub mod StateLaws

-- What a reader must believe: how many characters a pattern reads in how many places, which of these places a partial
-- match read last, and what is kept of a word.
pub mod Position
pub mod LastRead
pub mod PatternState
-- And atoms, the conditions on a word, with a test of when two are the same; which characters no atom distinguishes,
-- the state of a word, and the rows that the states of all words make, each list in order of first mention.
pub mod Atom
pub mod SameAtom
pub mod AtomPositions
pub mod Mention
pub mod Classes
pub mod WordState
pub mod Rows

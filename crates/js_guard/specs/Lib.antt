-- What a reader must believe is in `schemas`: in-place edges, the cycle that is reported, and ranks. Here are the
-- entries of a schema with ranks, and what the guard answers.
pub mod RankedView
pub mod Answer
-- Internal: edges in flat arrays, what a search keeps and its steps, edges the other way round, and distances.
pub mod Rows
pub mod Searching
pub mod Steps
pub mod Linked
pub mod Distances
pub mod Nearest

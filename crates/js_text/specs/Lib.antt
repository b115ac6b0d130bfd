-- What a reader must believe: `Kept.AreMeasures`, that measures are those of a table, and `Summed.measure_view`, what
-- a `Measure` stands for. What the texts are, and what is measured, is said in `document_texts`. The other words are
-- for this crate's own clauses.
pub mod Kept
pub mod Summed
pub mod Commas
pub mod Reads
pub mod Scalars

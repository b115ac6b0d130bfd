-- The key lemma: makers that are put together run one after another.
pub mod RunLemmas
-- What a sink's fields say of it, elements and members one by one.
pub mod SinkLemmas
-- The groups of an `enum`.
pub mod GroupLemmas
-- Values that are kept once.
pub mod OnceLaws
pub mod SetLemmas

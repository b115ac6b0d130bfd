-- Key lemmas: `keys_views` of `AtomKeys`, `taken_one` and `takes_then` of `Taking`, `said_vectors` and `said_places` of
-- `Literals`, `grouped_next` of `Vectors`, `of_row` and `mark_at` of `RowVectors`.
pub mod AtomKeys
pub mod Taking
pub mod Formulas
pub mod Literals
pub mod Vectors
pub mod RowVectors

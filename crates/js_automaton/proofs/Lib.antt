pub mod AlikeLemmas
pub mod ClassSteps
pub mod TrieLemmas
pub mod NodeLemmas
pub mod PartLemmas
pub mod EndLemmas
pub mod TupleLemmas
mod FollowLemmas
mod KeyLemmas
mod RowsLemmas
mod ToldLemmas
mod PieceLemmas
mod NumberLemmas
mod PieceSetLemmas
mod DividerLemmas

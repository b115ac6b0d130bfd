-- The array of a plan, by which the laws are said.
pub mod ArrayValues

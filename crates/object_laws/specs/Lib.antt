-- The object of a plan, by which the laws are said.
pub mod ObjectValues

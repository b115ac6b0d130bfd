pub mod Tables
pub mod Meanings
pub mod Orders
pub mod Sets
-- Sets in the order in which their members came, kept as numbers.
pub mod Numbered
pub mod Grown
pub mod Sorting
pub mod Closeness
pub mod Contained
mod Equal
-- Where references end.
pub mod Ended
pub mod Choosing
-- Tables that tests make.
pub mod Chains
pub mod Crossing
pub mod Inside

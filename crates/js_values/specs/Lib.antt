-- What has been appended and named so far, and what a maker does to it.
pub mod Runs
-- Used inside: the nodes of a member and of groups of values, and values that are kept once.
pub mod MemberMaker
pub mod GroupMakers
pub mod Distinct
pub mod Sets

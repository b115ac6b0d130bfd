-- What a reader must believe: the theorem, by the names that the words give, the report of a command over files with
-- its status, what a report's document, certificate, limit or refusal means, what a run writes, and what it writes for
-- `valid`, for `check`, for `norm` and for `gen`.
pub mod Correct
pub mod StatusCode
pub mod Names
pub mod Printed
pub mod Report
pub mod Meaning
pub mod Running
pub mod Judging
pub mod Checking
pub mod Unrejected
pub mod Listing
pub mod Generating
-- Used inside: what preparing a report says.
pub mod Preparing

-- What a reader must believe: what a group requires of a whole number, the answer that is owed for it with its cases,
-- and what the answers say of whole numbers. Then the words that these stand on.
pub mod Correct
pub mod Group
pub mod Outcome
pub mod Cases
pub mod Multiples

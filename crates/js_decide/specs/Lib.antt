-- What a reader must believe: the verdicts and decisions that the program's values stand for, what the certificate
-- of a verdict is, what its document meets and how deep it is, and what its limits count.
pub mod View
pub mod Certified
pub mod MeetsRoot
pub mod Shallow
pub mod Counted

-- What a reader must believe: the document, the JSON value or the part that a program's value stands for, and which
-- names rise. Then the words of its lists. `formers` says how a value that holds itself is held by `Rising`, for proofs
-- alone.
pub mod Names
pub mod View
pub mod JsonView
pub mod PartView
pub mod PartMembers
pub mod Numbers
pub mod formers

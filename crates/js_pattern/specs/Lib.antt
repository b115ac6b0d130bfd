-- What a reader must believe: which text has which tree, and which has which first fault.
pub mod Reading
pub mod Escapes
pub mod Classes
pub mod Quantifiers
pub mod Grammar
pub mod Correct
pub mod Names
-- The number by which a tree is looked for among others.
pub mod Fingerprint
-- What a contract sees of the reader's own types.
pub mod View
pub mod Ranges
pub mod Order
pub mod Progress

-- What a reader must believe: what a document is, which values a JSON text can have, and which is at a place.
pub mod Tests
pub mod Kind
pub mod KindWords
pub mod Document
pub mod Json
pub mod WellFormed
pub mod Place
-- The tests that keywords and positions make of documents.
pub mod Measures
-- And membership in a list of whole numbers.
pub mod Numbers

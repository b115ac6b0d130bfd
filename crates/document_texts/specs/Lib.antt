-- What a reader must believe: the text of a string, of a document and of a table of parts, and what is measured of a
-- document before its text is written.
pub mod Scalars
pub mod DocumentText
pub mod PartsText
-- which bytes are a table's text, and at which line others are refused
pub mod PartsRead
pub mod Measured
-- which of the two texts is printed of a document that was found
pub mod FoundText

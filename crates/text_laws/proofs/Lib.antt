-- Blanks behind a text that is printed change no token.
pub mod BlankLaws
-- A document as data: its value, what is written for it, and how deep it nests.
pub mod DataLaws
-- What is written for that data is read as it again.
pub mod OutlineLaws
-- The text of a document is read back as the document.
pub mod TextLaws

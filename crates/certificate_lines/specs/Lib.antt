-- What a reader must believe: the lines of a certificate, the text of each, which bytes are the text of lines, and
-- where a reader of bytes is after each piece.
pub mod Line
pub mod Text
pub mod Reader
-- How the line of a text is found.
pub mod Pieces
pub mod Reading
-- Bytes cut into lines in one go.
pub mod Cut

-- What a reader must believe: what the bytes of a file are read as, as a schema and as a document, the same of the
-- file of a name, and which files two readings may find.
pub mod SchemaReading
pub mod DocumentReading
pub mod FileReading
pub mod ToldTwice
-- In which order the files of a command are begun.
pub mod OrderOfFiles
-- What the calls answer, on bytes and on files of a shelf.
pub mod Saying

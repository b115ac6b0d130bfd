-- What a reader must believe: when bytes are a whole file, what each fault of reading says, and what is in
-- a sink after a report; the words that say what is wrong in a file, and the line that they are in.
pub mod WholeFile
pub mod Written
pub mod RefusalWords
pub mod Lines

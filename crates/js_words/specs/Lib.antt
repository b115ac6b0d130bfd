-- What a reader must believe: the command that words give, the command line that `clap` reads them by, their numbers,
-- and which words are plain.
pub mod Commands
pub mod CommandLine
pub mod Numbers
pub mod PlainWords
-- What follows of each command: its numbers are in their ranges.
pub mod Ranges
-- The answer of a reader of words, and the command that the program's value stands for.
pub mod Giving
pub mod CommandView

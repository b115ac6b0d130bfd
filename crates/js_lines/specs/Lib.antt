-- What a reader must believe: the line that a program's line stands for, and what a reader of lines answers.
pub mod View
pub mod Answers
pub mod Bad

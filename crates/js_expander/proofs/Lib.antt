-- What is kept, and what is left of a walk and of a table.
mod Counted
mod Walked
-- The words of strings, and the names of objects.
mod Words
mod Texts
-- What the alternatives of goals build.
mod Sound

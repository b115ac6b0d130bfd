-- The goal of a table is taken.
mod Taken

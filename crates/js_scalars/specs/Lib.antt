-- What a reader must believe: what each answer says.
pub mod Answers
-- Internal: the group of what was read so far.
pub mod SoFar

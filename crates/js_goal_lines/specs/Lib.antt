-- What a reader must believe: what the lines of a goal, and of a set, show.
pub mod Dead

-- What a reader must believe: what the lines of a set show.
pub mod Dead

-- What a reader must believe: the goals that an expander takes, the branches and cells of such a goal, and what makes
-- its alternatives sound.
pub mod Expander
pub mod Sound

-- What a reader must believe: which goals are explored, which goals a round has, the document of a goal, which goals it
-- uses, and its parts.
pub mod Explored
pub mod Rounds
pub mod Documents
pub mod Uses
pub mod Witness

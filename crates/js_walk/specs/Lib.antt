-- What a reader must believe: the places that the program's values stand for.
pub mod PlacesView
pub mod FileView
-- Internal: which schemas lie in a keyword's value, and the steps of the walk.
pub mod Holding
pub mod Visiting
pub mod Walking
pub mod Noted

-- What a reader must believe: the pointers that a table stands for, and to which of them a number leads.
pub mod Table
pub mod TokensView
pub mod PointersView
-- And that steps are numbered where each is found at its number, and nothing else is found.
pub mod Numbered
-- Internal: where names are, and where blocks and the map say that a step is.
pub mod NamePlaces
pub mod BlocksView
pub mod PlacesView

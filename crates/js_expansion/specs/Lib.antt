-- What a reader must believe: the slots, shapes, alternatives, limits and expansions that the program's values stand
-- for.
pub mod View
pub mod AlternativeView
pub mod ExpansionView

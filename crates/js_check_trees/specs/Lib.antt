-- What a reader must believe: the duties that open sets stand for, and what a line makes of them.
pub mod Choosing
pub mod OpenSetsView
pub mod Taking
-- Internal: what a step says.
pub mod Told

-- What a reader must believe: the duties that are left.
pub mod View

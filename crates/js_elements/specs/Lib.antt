-- What a reader must believe: what one literal requires of an element.
pub mod Elements

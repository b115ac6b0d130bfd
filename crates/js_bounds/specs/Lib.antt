-- Internal: what one literal says of the number of elements.
pub mod Elements

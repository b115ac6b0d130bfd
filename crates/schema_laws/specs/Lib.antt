-- What the laws speak of: the values in a value, and a walk that is under way.
pub mod Values
pub mod Walking
pub mod Sound

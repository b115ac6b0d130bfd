-- What a reader must believe: which sets are saturated, and which goals are formed.
pub mod Saturated
pub mod Formed

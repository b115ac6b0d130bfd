-- What a reader must believe: which two schemas a family has at a number. `Objects` makes objects of members in any
-- order.
pub mod Objects
pub mod Families

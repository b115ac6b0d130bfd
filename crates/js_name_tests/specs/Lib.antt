-- What a reader must believe: what literals that speak of names require of members, each by its number among them.
pub mod NameTests

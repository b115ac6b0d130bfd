-- What a reader must believe: the number of each rule, and what a fault says of a line.
pub mod RuleView
pub mod Told

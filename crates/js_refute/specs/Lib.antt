-- What a reader must believe: where a certificate is good, and what that is.
pub mod Good
-- Which explored goals have a number, and the lines of each.
pub mod Unmet

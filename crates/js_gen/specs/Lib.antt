-- What a reader must believe: which family a kind is.
pub mod KindView
-- Used inside: what is seen of members, which texts are ASCII, and where a member is among others.
pub mod MembersView
pub mod Ascii
pub mod Places

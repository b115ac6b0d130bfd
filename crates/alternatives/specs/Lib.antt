-- What a reader must believe. An alternative is one way to build a document of a goal: a branch of the goal, members
-- that each meet a goal of their own, and fillers of which some are added until there are as many as are needed.
pub mod Alternative
-- Where the words are that the slots of an alternative name: the cells of its branch, each by its words in order.
pub mod Slots
-- The limits of the search, in the order in which they are listed.
pub mod Limit
-- An expansion is all alternatives of a goal in order, and the hole: the first limit that left some of them out.
-- Without a hole none is left out.
pub mod Expansion

-- What a reader must believe: the positions, kinds and signed positions that the program's values stand for.
pub mod View
-- When two goals or patterns are the same.
pub mod Equality
-- Sets of signed positions in the order in which their members came, and the rising list that each stands for.
pub mod SignedSets
-- Used inside the proofs and by callers that sort: the place of a signed position in the order.
pub mod Order
pub mod Numbers
pub mod Rules
pub mod Close
pub mod Ends
pub mod TreeCode

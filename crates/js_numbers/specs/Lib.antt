-- First what a reader must believe: the group and the answer that the program's values stand for. Then the words of the
-- code's own bookkeeping.
pub mod View
pub mod Marking

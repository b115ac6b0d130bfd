-- What a reader must believe: the keywords by their names, the faults that are reported, and the rules of reading.
pub mod Names
pub mod TypeView
pub mod Reading
pub mod FaultView
-- Internal: which keyword a name is, and what is wrong in a member by it.
pub mod Words
pub mod ValuePlaceView
pub mod Member
pub mod Failing

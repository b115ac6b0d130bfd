-- What a reader must believe: what reading answers.
pub mod Answering
-- Internal: objects in which nothing is wrong, and schemas by their numbers.
pub mod NumbersView
pub mod ObjectView
pub mod KeywordPlaceView
pub mod LeadsProp
pub mod Faultless
pub mod Links

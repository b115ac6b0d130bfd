pub mod EntryLaws
pub mod FeedLaws

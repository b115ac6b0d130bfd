pub mod PrintedLaws
pub mod Includes
pub mod MeaningLaws
pub mod FileLaws
pub mod JudgingLaws
pub mod CheckingLaws
pub mod UnrejectedLaws
pub mod ListingLaws
pub mod GeneratingLaws
pub mod MissingLaws
mod Examples

mod NumbersLemmas
mod SpellingLemmas
mod WalkLemmas
mod Subcommands
mod PlainWordsLemmas
mod RangesLemmas
mod ReadLemmas
mod Examples

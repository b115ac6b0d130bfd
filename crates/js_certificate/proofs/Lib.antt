mod PartLemmas
mod BatchLemmas
mod EndLemmas
mod JudgeLemmas
mod ReadBehindLemmas
mod FileLemmas
mod UnrejectedLemmas

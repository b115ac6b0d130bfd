mod Holes
mod Told
mod Deciding
mod Shallow
mod GoalCounts
mod AllCounts
mod Counts

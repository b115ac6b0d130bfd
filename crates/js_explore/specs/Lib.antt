-- What a reader must believe: the alternatives with numbers that the program's values stand for; what was found and
-- answered, and when that is what an expansion of each goal gives.
pub mod View
pub mod NumberedView
pub mod Exploration
pub mod ExploredView
-- Internal: the answers for the goals of a wave; the expander that the tests have.
pub mod WaveAnswers
pub mod Small

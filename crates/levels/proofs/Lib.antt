pub mod LevelsLaws
pub mod WithinLaws

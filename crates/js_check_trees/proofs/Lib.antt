pub mod ChoiceLaws
pub mod GrowthLaws
pub mod StepLaws
pub mod ScalarLaws

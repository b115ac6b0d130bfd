pub mod EdgeLaws
pub mod LabelLaws
pub mod ReachingLaws
pub mod EndlessLaws
pub mod RaisingLaws
pub mod CountLaws
mod NamingLaws
mod NameSteps
mod Letters
mod BlockLaws
mod RunLaws
mod ChoiceLaws
mod NumberLaws
mod WordSteps
mod Listing
mod MarkedRow

mod Keys
mod Turns
mod Front
mod Settled
mod Going
mod Steps
mod WaveSteps
mod Few
-- The words of the expander that the tests have.
pub mod NoWords

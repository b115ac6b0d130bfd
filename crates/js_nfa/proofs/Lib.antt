-- What may follow a state, in one walk, and the steps by columns.
pub mod FollowSteps
pub mod ColumnsSteps
-- The steps by follow sets, one a position.
pub mod FollowSetsSteps
pub mod FoursSteps
-- States of words by the flags of positions.
pub mod StateSteps
-- States as they are fed to a hasher.
pub mod FedLemmas

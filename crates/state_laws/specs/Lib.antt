-- The laws, as statements.
pub mod Laws
-- What a tree makes of a state.
pub mod Flow
-- Lists of flags joined, and flags that don't ask for the character.
pub mod FollowSets
-- The laws of unions, as statements.
pub mod UnionLaws

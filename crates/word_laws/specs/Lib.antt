-- The laws, as statements.
pub mod Laws

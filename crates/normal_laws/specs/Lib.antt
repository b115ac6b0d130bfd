-- What the laws speak of: which tests the positions that are named stand for.
pub mod Making

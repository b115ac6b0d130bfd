mod Read
pub mod Found

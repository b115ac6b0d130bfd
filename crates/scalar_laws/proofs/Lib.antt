pub mod Groups
pub mod Both
pub mod Ready
pub mod Numbers

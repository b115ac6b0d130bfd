mod Examples
pub mod NameOrder
pub mod Parts
pub mod Rising

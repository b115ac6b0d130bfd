pub mod AsciiTexts
pub mod Listed
pub mod Ordered
pub mod Places
pub mod Views

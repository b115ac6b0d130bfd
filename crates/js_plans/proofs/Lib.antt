pub mod Grown
pub mod Seen
pub mod Plans
pub mod Placing
pub mod Served
pub mod Options
mod Opening
mod Forming
pub mod Shown
pub mod Extents
mod Remaining
pub mod Namings

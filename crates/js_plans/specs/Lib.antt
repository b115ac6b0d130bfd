-- What serves the demands of a frame one after another, and the plans and the steps after that.
pub mod Serving
pub mod Servers
pub mod Goals
pub mod Choosing
pub mod Walks
pub mod Placing
pub mod Named

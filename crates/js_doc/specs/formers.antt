pub mod rising

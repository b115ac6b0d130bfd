pub mod SoFar
mod Examples

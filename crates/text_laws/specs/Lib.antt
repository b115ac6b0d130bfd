-- A document as `serde_json` has its value, by which the laws go.
pub mod DocumentData

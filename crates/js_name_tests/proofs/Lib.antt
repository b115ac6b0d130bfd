-- Key lemmas: `barred-names`, `served-names` and `asked-names` of `Telling`, `allowed-are`, `servers-are` and
-- `values-are` of `Framing`.
pub mod Ranges
pub mod Naming
pub mod Telling
pub mod Framing

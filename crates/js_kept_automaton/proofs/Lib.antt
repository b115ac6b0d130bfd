-- Key lemma: `built-is` of `Building`.
mod Building
mod SameAtoms

mod Finding
mod Past
mod Columns
mod Framing
mod LeafLaws
mod Meaning

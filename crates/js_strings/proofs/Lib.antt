mod Finding
pub mod LeafLaws

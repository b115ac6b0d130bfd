pub mod OnTexts
mod Examples
pub mod StringTexts
pub mod TokenTexts
pub mod TreeTexts
pub mod DataTexts
pub mod ValueLemmas
pub mod TreeReading
pub mod EntryNames
pub mod MembersLemmas
pub mod PointerLemmas
pub mod DocumentsLemmas
pub mod PlaceLemmas
pub mod StepsLemmas
pub mod TokensLemmas
pub mod PiecesLemmas
pub mod ReferenceLemmas

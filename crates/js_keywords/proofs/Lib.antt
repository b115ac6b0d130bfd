pub mod WordsLemmas
pub mod ShapesLemmas
pub mod MemberLemmas

-- What the crates above use of the lemmas on words: texts with the same bytes are the same word.
pub use Rattle.js_doc.proofs.Lookups.{same_word-named}

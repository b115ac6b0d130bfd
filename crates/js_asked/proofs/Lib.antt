-- Key lemmas: `wished_atoms` and `wished_words` of `Wishing`.
mod Wishing

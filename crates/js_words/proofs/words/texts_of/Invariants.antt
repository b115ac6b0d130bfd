use Rattle.std.proofs.Common.{◌≡◌, map, take, encode_utf8_all}
use Rattle.js_words.proofs.SpellingLemmas.{AreSpelled}
use Rattle.js_words.proofs.words.texts_of.Given as goal

abbrev pub invariant-loop-word : goal.invariant-loop-word
invariant-loop-word l = record {
  texts : map (λ t. t.now) l.texts.items ≡ map encode_utf8_all (take l.word-index l.words);
  spelled : AreSpelled l.word-index l.words;
}

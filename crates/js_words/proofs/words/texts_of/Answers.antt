use Rattle.std.proofs.Common.{◌∙◌, arith, ap, map}
use Rattle.js_words.proofs.SpellingLemmas.{spelled-more, texts-more}
use Rattle.js_words.proofs.words.texts_of.Goals as goal

pub loop-word-preserved : goal.loop-word-preserved
loop-word-preserved c =
    let words = c.args.words.now in
    let i = c.loop-word.word-index in
    let word = c.word-item.result in
    let bytes = c.as_text.ensures.bytes in record {
      texts = ap (map (λ t. t.now)) c.in_ok-push.ensures.items
          ∙ texts-more c.loop-word.texts.items words i c.as_text.result word c.loop-word.invariant.texts (omega arith)
          c.word-item.is bytes;
      spelled = spelled-more words i word c.as_text.result.now c.loop-word.invariant.spelled (omega arith)
          c.word-item.is bytes c.as_text.ensures.text;
    }

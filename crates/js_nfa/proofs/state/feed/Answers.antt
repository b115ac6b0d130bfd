use Rattle.std.proofs.Common.{refl, ◌∙◌, ap, arith}
use Rattle.std.specs.List.{fold}
use Rattle.word_states.specs.PatternState.{numbers_from}
use Rattle.js_nfa.proofs.FedLemmas.{is_word, feed-word, skip-word, fed-more, fed-all}
use Rattle.js_nfa.proofs.state.feed.Goals as goal
use Rattle.js_nfa.proofs.state.feed.Goals.{then-word-ne0, else-word-ne0}

pub loop-index-init : goal.loop-index-init
loop-index-init g c = refl

pub loop-index-preserved : goal.loop-index-preserved
loop-index-preserved g c =
    let write = g.H.Hasher.write in
    let flags = c.args.positions.now.flags in
    let i = c.loop-index.index-counter in
    let own = is_word flags i c.word-word.result c.word-word.ensures (omega (arith, c.word-word.type_inv)) in
    fed-more write _ c.loop-index.state _ (numbers_from 0 flags) i c.word-word.result own c.loop-index.invariant
    (elim c.if-word-ne0.branch [
      | then-word-ne0 w ↦
          feed-word write c.loop-index.state _ _ i c.word-word.result w.if-word-ne0.true w.hash.ensures
          (w.state-is ∙ w.hash-then-word-ne0.ensures)
      | else-word-ne0 w ↦ skip-word write c.loop-index.state _ i c.word-word.result w.if-word-ne0.false w.state-is
    ])

pub returns : goal.returns
returns g c =
    c.loop-index.invariant
    ∙ ap (fold g.H.Hasher.write _)
    (fed-all c.args.positions.now.flags c.loop-index.index-counter
    (λ p l. c.count_words-index-end.ensures.quiet p (omega (arith, l, c.loop-index-test.false))))

use Rattle.std.proofs.Common.{◌≡◌, ℕ, ◌<◌, true, false, length, get_or, sym, ◌∙◌, subst}
use Rattle.js_automaton.specs.AutomatonView.{atoms_of, rows_of}
use Rattle.js_row_words.specs.Labels.{HasNext}
use Rattle.js_row_words.proofs.endless.keep_endless.Goals as goal

pub loop-falling-preserved : goal.loop-falling-preserved
loop-falling-preserved c = (
  c.drop_ends-falling.ensures.size ∙ c.loop-falling.invariant.0,
  (λ r e. c.loop-falling.invariant.1 r (c.drop_ends-falling.ensures.part r e)),
  λ e. subst
      (λ z. (i : ℕ) → i < length c.args.list.now → get_or z (get_or c.args.list.now i 0) false ≡ true
      → HasNext (atoms_of c.args.automaton.now) (rows_of c.args.automaton.now) z (get_or c.args.list.now i 0))
      (sym (c.drop_ends-falling.ensures.same e)) (c.drop_ends-falling.ensures.nexts e),
)

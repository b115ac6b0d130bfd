-- The test of two states decides whether they are one, and states that are one are hashed alike.
use Rattle.std.specs.Prelude.{◌≡◌, true}
use Rattle.std.proofs.Common.{Decides, refl, sym, ap, subst}
use Rattle.std.proofs.Math.Bool.{true≢false}
use Rattle.std.specs.Cmp.{IsEquivalence, decided, unsigned_Decides}
use Rattle.std.specs.Cmp.Lexicographic.{pointwise_decides}
use Rattle.word_states.specs.PatternState as states
use Rattle.word_states.specs.WordState.{same_pattern_state}
use Rattle.js_nfa.specs.declared.state.PatternState.{PatternState}
use Rattle.js_nfa.specs.View.{state_view}
use Rattle.js_nfa.specs.Fed.{fed_state}

same_itself : (x : states.PatternState) → same_pattern_state x x ≡ true
same_itself states.done = refl
same_itself (states.reading ps) = (pointwise_decides unsigned_Decides ps ps).1 refl

same_one : (x y : states.PatternState) → same_pattern_state x y ≡ true → x ≡ y
same_one states.done states.done e = refl
same_one states.done (states.reading qs) e = absurd (true≢false (sym e))
same_one (states.reading ps) states.done e = absurd (true≢false (sym e))
same_one (states.reading ps) (states.reading qs) e = ap states.reading ((pointwise_decides unsigned_Decides ps qs).0 e)

pub same_pattern_state-decides : (x y : states.PatternState) → Decides (same_pattern_state x y) (x ≡ y)
same_pattern_state-decides x y =
    (same_one x y, (λ e. subst (λ z. same_pattern_state x z ≡ true) e (same_itself x)))

pub same_pattern_state-equivalence : IsEquivalence same_pattern_state
same_pattern_state-equivalence = decided same_pattern_state same_pattern_state-decides

pub fed-same : (x y : PatternState) → same_pattern_state (state_view x) (state_view y) ≡ true
    → fed_state (state_view x) ≡ fed_state (state_view y)
fed-same x y e = ap fed_state (same_one (state_view x) (state_view y) e)

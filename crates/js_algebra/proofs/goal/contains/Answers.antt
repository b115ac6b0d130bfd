use Rattle.std.proofs.Common.{rules, ◌+◌, length, List, ℕ, ◌<◌, ◌≤◌, Bool, false, ◌∷◌, drop, get_or, arith, subst, sym, ◌∙◌, length-drop, Bor}
use Rattle.goals.specs.Goal as G
use Rattle.js_algebra.specs.declared.signed.Signed.{Signed}
use Rattle.js_algebra.proofs.Sorting.{same_fields}
use Rattle.js_algebra.proofs.Contained.{contained-met, keeps_none, Keeps, keeps_same, keeps_later, keeps_not, keeps_end, drop-at, from_first, after_first}
use Rattle.js_algebra.proofs.goal.contains.Goals as goal
use Rattle.js_algebra.proofs.goal.contains.Goals.{then-eq, else-eq+else-order}

abbrev nothing : Signed
nothing = record { pos = record { 0 = 0 }; plus = false }

-- the first of what is left of each
firsts : (answer : Bool) (all left : List Signed) (i : ℕ) → i < length all → 1 ≤ length left
    → Keeps answer (drop i all) left
    → Keeps answer (get_or all i nothing ∷ drop (i + 1) all) (get_or left 0 nothing ∷ drop 1 left)
firsts answer all left i l m k =
    subst (λ B. Keeps answer B (get_or left 0 nothing ∷ drop 1 left)) (drop-at all i nothing l)
    (subst (λ R. Keeps answer (drop i all) R) (from_first left nothing m) k)

pub returns-then-order-clause-value : goal.returns-then-order-clause-value
returns-then-order-clause-value c =
    keeps_not _ _ _ _ _ (omega arith) (firsts _ c.as_slice-all.result.now c.loop-x.left.now c.loop-x.x-index
    c.loop-x-test.true c.in-len1-up.len_at_least c.loop-x.invariant)

pub loop-x-preserved : goal.loop-x-preserved
loop-x-preserved c =
    let k = firsts _ c.as_slice-all.result.now c.loop-x.left.now c.loop-x.x-index c.loop-x-test.true
    c.in-len1-up.len_at_least c.loop-x.invariant in
    elim c.if-eq.branch [
      | then-eq w ↦ subst (λ (l : Bor (List Signed)).
          Keeps (G.contains c.args.big.now c.args.small.now)
          (drop (c.loop-x.x-index + 1) c.as_slice-all.result.now) l.now) (sym w.left-is)
          (subst (λ R. Keeps (G.contains c.args.big.now c.args.small.now)
          (drop (c.loop-x.x-index + 1) c.as_slice-all.result.now) R) (sym (after_first c.loop-x.left.now))
          (keeps_same _ _ _ _ _ (sym (same_fields _ _ _ _) ∙ sym w.if-eq.ensures) k))
      | else-eq+else-order w ↦ subst (λ (l : Bor (List Signed)).
          Keeps (G.contains c.args.big.now c.args.small.now)
          (drop (c.loop-x.x-index + 1) c.as_slice-all.result.now) l.now) (sym w.left-is)
          (subst (λ R. Keeps (G.contains c.args.big.now c.args.small.now)
          (drop (c.loop-x.x-index + 1) c.as_slice-all.result.now) R)
          (sym (from_first c.loop-x.left.now nothing c.in-len1-up.len_at_least))
          (keeps_later _ _ _ _ _ (sym (same_fields _ _ _ _) ∙ sym w.if-eq.ensures)
          (omega (arith, w.order.ensures.value, w.order-else-eq.ensures.value)) k))
    ]

pub returns-clause-value : goal.returns-clause-value
returns-clause-value c =
    c.is_empty.ensures ∙ keeps_end _ _ c.loop-x.left.now
    (omega (arith, length-drop c.loop-x.x-index c.as_slice-all.result.now)) c.loop-x.invariant

pub returns-in-empty-clause-value : goal.returns-in-empty-clause-value
returns-in-empty-clause-value c = search (rules, keeps_none)

pub returns-in-empty-clause-meaning : goal.returns-in-empty-clause-meaning
returns-in-empty-clause-meaning c = contained-met _ _ _ (returns-in-empty-clause-value c)

pub returns-then-order-clause-meaning : goal.returns-then-order-clause-meaning
returns-then-order-clause-meaning c = contained-met _ _ _ (returns-then-order-clause-value c)

pub returns-clause-meaning : goal.returns-clause-meaning
returns-clause-meaning c = contained-met _ _ _ (returns-clause-value c)

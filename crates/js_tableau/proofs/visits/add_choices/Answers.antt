-- The next entry goes before those that were added.
use Rattle.std.proofs.Common.{◌≡◌, ℕ, suc, ◌-◌, ◌++◌, ◌∷◌, List, arith, ap, sym, ◌∙◌}
use Rattle.js_algebra.specs.declared.signed.Signed.{Signed}
use Rattle.js_tableau.specs.declared.visits.Pending.{Pending}
use Rattle.js_tableau.specs.Progress.{entries}
use Rattle.js_tableau.proofs.visits.add_choices.Goals as goal
use Rattle.list_laws.proofs.Lists.{reverse-last}

one_before : (m s : ℕ) (x : Signed) (i j n k : ℕ) (es : List Pending) → j ≡ suc i → n ≡ suc k
    → record { members = m; settled = s; rule = x; index = i } ∷ (entries m s x j k ++ es) ≡ entries m s x i n ++ es
one_before m s x i j n k es e f =
    ap (λ a. record { members = m; settled = s; rule = x; index = i } ∷ (entries m s x a k ++ es)) e
    ∙ ap (λ b. entries m s x i b ++ es) (sym f)

pub loop-index-preserved : goal.loop-index-preserved
loop-index-preserved c = (
  omega (arith, c.loop-index.invariant.0),
  reverse-last c.loop-index.pending.items _ _ c.in_ok-push.ensures.items
      ∙ ap (λ es. (let e : Pending = record {
        members = c.args.members;
        settled = c.args.settled;
        rule = c.args.rule;
        index = c.loop-index.index - 1;
      } in e) ∷ es) c.loop-index.invariant.1
      ∙ one_before c.args.members c.args.settled c.args.rule (c.loop-index.index - 1) c.loop-index.index
      (c.args.count - (c.loop-index.index - 1)) (c.args.count - c.loop-index.index) _
      (omega arith) (omega (arith, c.loop-index.invariant.0)),
)

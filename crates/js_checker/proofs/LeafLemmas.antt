-- A line of the leaf that is open.
use Rattle.std.proofs.Common.{◌≡◌, ℕ, List, [], ◌∷◌, Bool, Result, Ok, OnOk, IfErr, sym, ◌∙◌, subst}
use Rattle.positions.specs.Position.{Position}
use Rattle.goals.specs.Signed.{Signed}
use Rattle.certificate_lines.specs.Line.{Line}
use Rattle.verdicts.specs.Duties.{Duty, run}
use Rattle.js_rules.specs.Told.{Breaks}
use Rattle.js_rules.specs.declared.fault.RuleFault.{RuleFault}
use Rattle.js_checker.specs.Duties.{Leaves, Faults}
use Rattle.js_checker.specs.LeafView.{leaf_duties, leaf_table}
use Rattle.js_checker.specs.declared.leaf.Leaf.{Leaf}
use Rattle.js_checker.proofs.Results.{on_ok, if_err}

-- with the table U and the duties ds, whatever may be cited
module _ {A : Type 0} (r : Result A RuleFault) (x : Leaf) (U : List Position) (ds : List Duty) (l : Line)
    (cite : ℕ → List Signed → Bool) (table : (T : List Position) → leaf_table T x ≡ U) (same : leaf_duties x ≡ ds) where
  -- a line that is taken leaves the duties that the leaf then has
  pub leaf_leaves : (es : List Duty) → OnOk r ((cite : ℕ → List Signed → Bool) → run U cite ds (l ∷ []) ≡ Ok es)
      → OnOk r ((T : List Position) → leaf_table T x ≡ T → Leaves T cite l (leaf_duties x) es)
  leaf_leaves es = on_ok r (λ h T over.
      subst (λ V. Leaves V cite l (leaf_duties x) es) (sym (table T) ∙ over)
      (subst (λ zs. Leaves U cite l zs es) (sym same) (h cite)))

  -- a line that is refused breaks that rule at the leaf's duties
  pub leaf_faults : IfErr r (λ fault. (cite : ℕ → List Signed → Bool) → Breaks (run U cite ds (l ∷ [])) fault)
      → IfErr r (λ fault. (T : List Position) → leaf_table T x ≡ T → Faults T cite l (leaf_duties x) fault)
  leaf_faults = if_err r (λ fault h T over.
      subst (λ V. Faults V cite l (leaf_duties x) fault) (sym (table T) ∙ over)
      (subst (λ zs. Faults U cite l zs fault) (sym same) (h cite)))

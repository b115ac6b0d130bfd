-- One line on one duty.
use Rattle.std.proofs.Common.{◌≡◌, ℕ, List, [], ◌∷◌, ◌++◌, Bool, Result, Ok, Err, refl, ap, sym, subst, ◌∙◌, append-nil}
use Rattle.positions.specs.Position.{Position}
use Rattle.goals.specs.Signed.{Signed}
use Rattle.certificate_lines.specs.Line.{Line}
use Rattle.verdicts.specs.RowLines.{and_then}
use Rattle.verdicts.specs.Duties.{Duty, after, run}
use Rattle.js_rules.specs.declared.fault.RuleFault.{RuleFault}
use Rattle.js_check_objects.specs.declared.stage.Stage.{Stage}
use Rattle.js_check_objects.specs.StageView.{Answers}

alone : (v : Result (List Duty) ℕ) → and_then (λ es. Ok (es ++ [])) v ≡ v
alone (Ok es) = ap Ok (append-nil es)
alone (Err r) = refl

-- a run of one line on one duty leaves what that line leaves of the duty
pub run_alone : (T : List Position) (cite : ℕ → List Signed → Bool) (d : Duty) (l : Line)
    → run T cite (d ∷ []) (l ∷ []) ≡ after T cite d l
run_alone T cite d l = alone (after T cite d l)

pub answers_alone : (T : List Position) (cite : ℕ → List Signed → Bool) (d : Duty) (l : Line)
    (v : Result (List Duty) ℕ) (r : Result Stage RuleFault) → after T cite d l ≡ v → Answers T v r
    → Answers T (run T cite (d ∷ []) (l ∷ [])) r
answers_alone T cite d l v r e h = subst (λ z. Answers T z r) (sym e ∙ sym (run_alone T cite d l)) h

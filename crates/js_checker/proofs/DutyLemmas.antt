-- What a line leaves of duties, with others behind them.
use Rattle.std.proofs.Common.{◌≡◌, ℕ, List, [], ◌∷◌, ◌++◌, Bool, true, false, not, cond, Result, Ok, Err, refl, ap, sym, ◌∙◌, subst, append_assoc}
use Rattle.positions.specs.Position.{Position}
use Rattle.goals.specs.Signed.{Signed}
use Rattle.certificate_lines.specs.Line.{Line}
use Rattle.verdicts.specs.RowLines.{and_then}
use Rattle.verdicts.specs.Duties.{Duty, after, run}
use Rattle.js_rules.specs.RuleView.{rule_view}
use Rattle.js_rules.specs.Told.{Breaks}
use Rattle.js_rules.specs.declared.fault.RuleFault.{RuleFault}
use Rattle.js_rules.specs.declared.fault.RuleFault.TheVariants as F
use Rattle.js_checker.specs.Duties.{any_left, Leaves, Faults}

pub none_left : (ds : List Duty) → any_left ds ≡ false → ds ≡ []
none_left [] e = refl
none_left (d ∷ ds) e = cc

pub more_left : (ds more : List Duty) → any_left ds ≡ true → any_left (ds ++ more) ≡ true
more_left [] more e = cc
more_left (d ∷ ds) more e = refl

pub left_there : (b : Bool) → not b ≡ false → b ≡ true
left_there true e = refl
left_there false e = cc

module _ (T : List Position) (cite : ℕ → List Signed → Bool) (l : Line) where
  -- a line leaves of duties with others behind them what it leaves of the first, and the others
  pub leaves_more : (ds more es : List Duty) → Leaves T cite l ds es → Leaves T cite l (ds ++ more) (es ++ more)
  leaves_more [] more es e = cc
  leaves_more (d ∷ ds) more es e = go (after T cite d l) e where
    go : (r : Result (List Duty) ℕ) → and_then (λ xs. Ok (xs ++ ds)) r ≡ Ok es
        → and_then (λ xs. Ok (xs ++ (ds ++ more))) r ≡ Ok (es ++ more)
    go (Err x) h = cc
    go (Ok xs) h =
        let same : xs ++ ds ≡ es = cc in
        ap Ok (sym (append_assoc xs ds more) ∙ ap (λ z. z ++ more) same)

  -- a line that breaks a rule at some duties breaks it with others behind them
  pub faults_more : (ds more : List Duty) (fault : RuleFault) → any_left ds ≡ true → Faults T cite l ds fault
      → Faults T cite l (ds ++ more) fault
  faults_more ds more F.Memory n e = tt
  faults_more [] more (F.Breaks r) n e = cc
  faults_more (d ∷ ds) more (F.Breaks r) n e = go (after T cite d l) e where
    go : (v : Result (List Duty) ℕ) → and_then (λ xs. Ok (xs ++ ds)) v ≡ Err (rule_view r)
        → and_then (λ xs. Ok (xs ++ (ds ++ more))) v ≡ Err (rule_view r)
    go (Err x) h = h
    go (Ok xs) h = cc

  -- a fault at duties is one behind those of which none is left
  pub faults_behind : (ds more : List Duty) (fault : RuleFault) → any_left ds ≡ false → Faults T cite l more fault
      → Faults T cite l (ds ++ more) fault
  faults_behind ds more fault n e =
      subst (λ es. Faults T cite l (es ++ more) fault) (sym (none_left ds n)) e

-- Lines while the listed goals are shown.
use Rattle.std.proofs.Common.{◌≡◌, ℕ, suc, ◌+◌, ◌<◌, ◌≤◌, List, [], ◌∷◌, ◌++◌, map, length, drop, get_or, nat_eq, Bool, true, false, Result, Ok, Err, ap, sym, ◌∙◌, append-nil, arith}
use Rattle.std.proofs.lemmas.List.{drop_more}
use Rattle.std.proofs.lemmas.Bool.Decides.{nat_tests}
use Rattle.documents.specs.Kind.{all_kinds}
use Rattle.positions.specs.Position.{Position}
use Rattle.goals.specs.Signed.{Signed}
use Rattle.certificate_lines.specs.Line as L
use Rattle.certificate_lines.specs.Line.{Line}
use Rattle.verdicts.specs.Rules.{out_of_place, other_entry}
use Rattle.verdicts.specs.RowLines.{and_then, if_so}
use Rattle.verdicts.specs.Duties.{Duty, OfGoal, AtKind, after}
use Rattle.verdicts.specs.Verdict.{Stage, Showing, Ended, cites, step, entry_duties}
use Rattle.js_rules.specs.RuleView.{rule_view}
use Rattle.js_rules.specs.Told.{Breaks}
use Rattle.js_rules.specs.declared.fault.RuleFault.{RuleFault}
use Rattle.js_rules.specs.declared.fault.RuleFault.TheVariants as F
use Rattle.js_checker.specs.Duties.{any_left, Leaves, Faults}
use Rattle.list_laws.proofs.Numbers.{nat_eq-refl}

module _ (T : List Position) (a b : ℕ) (gs : List (List Signed)) where
  -- a line that leaves duties
  pub shown_on : (l : Line) (ds es : List Duty) → Leaves T (cites gs) l ds es
      → step T a b (Showing gs ds) l ≡ Ok (Showing gs es)
  shown_on l [] es e = cc
  shown_on l (d ∷ ds) es e = go (after T (cites gs) d l) e where
    go : (r : Result (List Duty) ℕ) → and_then (λ xs. Ok (xs ++ ds)) r ≡ Ok es
        → and_then (λ xs. Ok (Showing gs (xs ++ ds))) r ≡ Ok (Showing gs es)
    go (Err x) h = cc
    go (Ok xs) h = let same : xs ++ ds ≡ es = cc in ap (λ zs. Ok (Showing gs zs)) same

  pub shown_fault : (l : Line) (ds : List Duty) (fault : RuleFault) → any_left ds ≡ true
      → Faults T (cites gs) l ds fault → Breaks (step T a b (Showing gs ds) l) fault
  shown_fault l ds F.Memory n e = tt
  shown_fault l [] (F.Breaks r) n e = cc
  shown_fault l (d ∷ ds) (F.Breaks r) n e = go (after T (cites gs) d l) e where
    go : (v : Result (List Duty) ℕ) → and_then (λ xs. Ok (xs ++ ds)) v ≡ Err (rule_view r)
        → and_then (λ xs. Ok (Showing gs (xs ++ ds))) v ≡ Err (rule_view r)
    go (Err x) h = cc
    go (Ok xs) h = cc

  -- the goals from one on
  abbrev left_from : ℕ → List Duty
  left_from n = entry_duties n (drop n gs)

  -- the duties from goal n on are that of goal n, and those from the next one on
  pub next_goal : (n : ℕ) → n < length gs → left_from n ≡ OfGoal n (get_or gs n []) ∷ left_from (n + 1)
  next_goal n h = ap (entry_duties n) (drop_more gs n [] h) ∙ omega_free where
    omega_free : entry_duties n (get_or gs n [] ∷ drop (n + 1) gs) ≡ OfGoal n (get_or gs n []) ∷ left_from (n + 1)
    omega_free = ap (λ m. OfGoal n (get_or gs n []) ∷ entry_duties m (drop (n + 1) gs)) (omega arith)

  pub entered : (n : ℕ) (es : List Duty) → n < length gs → es ≡ map (λ t. AtKind t (get_or gs n [])) all_kinds
      → step T a b (Showing gs (left_from n)) (L.Entry n) ≡ Ok (Showing gs (es ++ left_from (n + 1)))
  entered n es h e =
      ap (λ ds. step T a b (Showing gs ds) (L.Entry n)) (next_goal n h)
      ∙ ap (λ c. and_then (λ xs. Ok (Showing gs (xs ++ left_from (n + 1))))
      (if_so other_entry c (map (λ t. AtKind t (get_or gs n [])) all_kinds))) (nat_eq-refl n)
      ∙ ap (λ xs. Ok (Showing gs (xs ++ left_from (n + 1)))) (sym e)

  pub other_entered : (n m : ℕ) → n < length gs → (n ≡ m → ⊥)
      → step T a b (Showing gs (left_from n)) (L.Entry m) ≡ Err other_entry
  other_entered n m h differ =
      ap (λ ds. step T a b (Showing gs ds) (L.Entry m)) (next_goal n h)
      ∙ ap (λ c. and_then (λ xs. Ok (Showing gs (xs ++ left_from (n + 1))))
      (if_so other_entry c (map (λ t. AtKind t (get_or gs n [])) all_kinds))) other
    where
      other : nat_eq n m ≡ false
      other = grind (arith, nat_tests)

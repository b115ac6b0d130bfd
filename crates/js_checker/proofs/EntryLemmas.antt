-- Lines that do duties, and no more than these.
use Rattle.std.proofs.Common.{◌≡◌, ℕ, suc, ◌+◌, ◌<◌, List, [], ◌∷◌, ◌++◌, map, length, take, drop, get_or, nat_eq, nat_lt, Bool, true, false, not, ◌&&◌, Result, Ok, Err, refl, ap, sym, ◌∙◌, subst, arith}
use Rattle.std.proofs.lemmas.List.{map_more, drop_more, take-append-drop, map-append}
use Rattle.positions.specs.Position.{Position}
use Rattle.goals.specs.Signed.{Signed}
use Rattle.certificate_lines.specs.Line as L
use Rattle.certificate_lines.specs.Line.{Line}
use Rattle.verdicts.specs.RowLines.{and_then}
use Rattle.verdicts.specs.Duties.{Duty, OfGoal, after, run}
use Rattle.verdicts.specs.Verdict.{cites}
use Rattle.verdict_laws.proofs.Runs.{run_on}
use Rattle.js_rules.specs.RuleView.{rule_view}
use Rattle.js_rules.specs.Told.{Breaks}
use Rattle.js_rules.specs.declared.rule.Rule.{Rule}
use Rattle.js_rules.specs.declared.fault.RuleFault.{RuleFault}
use Rattle.js_rules.specs.declared.fault.RuleFault.TheVariants as F
use Rattle.js_lines.specs.View.{line_view}
use Rattle.js_lines.specs.declared.lines.CertLine.{CertLine}
use Rattle.js_checker.specs.Duties.{any_left, Leaves, Faults}
use Rattle.js_checker.specs.EntryView.{goal_duties, is_busy}
use Rattle.js_checker.specs.Entries.{is_nothing, do_all, is_entry, EntersNone}
use Rattle.js_checker.specs.declared.entry.EntryCheck.{EntryCheck}
use Rattle.js_checker.proofs.JudgeLemmas.{busy_duties, idle_duties}

pub nothing : (r : Result (List Duty) ℕ) → is_nothing r ≡ true → r ≡ Ok []
nothing (Ok []) e = refl
nothing (Ok (d ∷ ds)) e = cc
nothing (Err x) e = cc

pub something : (ds : List Duty) → any_left ds ≡ true → is_nothing (Ok ds) ≡ false
something [] e = cc
something (d ∷ ds) e = refl

-- the lines up to one, and that line
module _ (xs : List CertLine) (i : ℕ) (x : CertLine) (inside : i < length xs) (read : x ≡ get_or xs i x) where
  pub lines_to : map line_view (take i xs) ++ line_view x ∷ [] ≡ map line_view (take (i + 1) xs)
  lines_to =
      ap (λ y. map line_view (take i xs) ++ line_view y ∷ []) read ∙ sym (map_more line_view xs i x inside)

  -- the lines before one, the line, and those behind it are all lines
  pub lines_around : map line_view (take i xs) ++ line_view x ∷ map line_view (drop (i + 1) xs) ≡ map line_view xs
  lines_around =
      ap (λ y. map line_view (take i xs) ++ line_view y ∷ map line_view (drop (i + 1) xs)) read
      ∙ ap (λ ys. map line_view (take i xs) ++ map line_view ys) (sym (drop_more xs i x inside))
      ∙ sym (map-append line_view (take i xs) (drop i xs)) ∙ ap (map line_view) (take-append-drop i xs)

module _ (T : List Position) (gs : List (List Signed)) where
  abbrev Runs : List Duty → List Line → Result (List Duty) ℕ
  Runs ds ls = run T (cites gs) ds ls

  -- a line more
  pub led_on : (ds es fs : List Duty) (ls ms : List Line) (l : Line) → ls ++ l ∷ [] ≡ ms → Runs ds ls ≡ Ok es
      → Leaves T (cites gs) l es fs → Runs ds ms ≡ Ok fs
  led_on ds es fs ls ms l same led on =
      ap (Runs ds) (sym same) ∙ run_on T (cites gs) ds es ls (l ∷ []) led ∙ on

  -- a line that breaks a rule breaks it whatever comes after it
  stays : (es : List Duty) (l : Line) (more : List Line) (r : ℕ) → Runs es (l ∷ []) ≡ Err r
      → is_nothing (Runs es (l ∷ more)) ≡ false
  stays [] l more r e = refl
  stays (d ∷ ds) l more r e = go (after T (cites gs) d l) e where
    go : (v : Result (List Duty) ℕ) → and_then (λ xs. Ok (xs ++ ds)) v ≡ Err r
        → is_nothing (and_then (λ xs. Runs (xs ++ ds) more) v) ≡ false
    go (Ok xs) h = cc
    go (Err q) h = refl

  pub broken_off : (ds es : List Duty) (ls more ms : List Line) (l : Line) (r : ℕ) → ls ++ l ∷ more ≡ ms
      → Runs ds ls ≡ Ok es → Runs es (l ∷ []) ≡ Err r → do_all T gs ds ms ≡ false
  broken_off ds es ls more ms l r same led e =
      ap (λ ks. is_nothing (Runs ds ks)) (sym same)
      ∙ ap is_nothing (run_on T (cites gs) ds es ls (l ∷ more) led) ∙ stays es l more r e

  -- a fault that is a rule
  pub faults_rule : (es : List Duty) (l : Line) (fault : RuleFault) (r : Rule) → fault ≡ F.Breaks r
      → Faults T (cites gs) l es fault → Runs es (l ∷ []) ≡ Err (rule_view r)
  faults_rule es l fault r same h = subst (Faults T (cites gs) l es) same h

  -- whether all is done where the lines end
  pub all_done : (ds : List Duty) (g : List Signed) (e : EntryCheck) (ls ms : List Line) (done : Bool) → ls ≡ ms
      → Runs ds ls ≡ Ok (goal_duties g e) → done ≡ not (is_busy e) → done ≡ do_all T gs ds ms
  all_done ds g e ls ms done same led is =
      is ∙ go (is_busy e) refl ∙ ap is_nothing (sym led) ∙ ap (λ ks. is_nothing (Runs ds ks)) same where
        go : (b : Bool) → is_busy e ≡ b → not b ≡ is_nothing (Ok (goal_duties g e))
        go true h = sym (something (goal_duties g e) (busy_duties e g h))
        go false h = sym (ap (λ es. is_nothing (Ok es)) (idle_duties e g h))

  -- the answer for a number
  pub not_entered : (n : ℕ) (l : Line) (ls ms : List Line) → EntersNone n l → l ∷ ls ≡ ms → false ≡ is_entry T gs n ms
  not_entered n l ls ms none same =
      go (nat_lt n (length gs))
      ∙ ap (λ c. nat_lt n (length gs) && c) (sym (none T gs (get_or gs n []) ls))
      ∙ ap (is_entry T gs n) same where
        go : (b : Bool) → false ≡ (b && false)
        go true = refl
        go false = refl

  pub not_listed : (n : ℕ) (ls : List Line) → nat_lt n (length gs) ≡ false → false ≡ is_entry T gs n ls
  not_listed n ls outside = ap (λ c. c && do_all T gs (OfGoal n (get_or gs n []) ∷ []) ls) (sym outside)

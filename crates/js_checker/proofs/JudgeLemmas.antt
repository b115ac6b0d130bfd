-- A judge while the listed goals are shown.
use Rattle.std.proofs.Common.{◌≡◌, ℕ, ◌+◌, ◌-◌, ◌<◌, List, length, cond, [], ◌∷◌, ◌++◌, map, drop, get_or, Bool, true, false, ◌||◌, Option, Some, None, is_some, Result, Ok, Err, OnOk, IfErr, refl, ap, sym, ◌∙◌, subst, arith}
use Rattle.positions.specs.Position.{Position}
use Rattle.goals.specs.Signed.{Signed}
use Rattle.documents.specs.Kind.{all_kinds}
use Rattle.verdicts.specs.Rules.{out_of_place, no_goal}
use Rattle.verdicts.specs.RowLines.{if_so}
use Rattle.verdicts.specs.Duties.{Duty, AtKind}
use Rattle.verdicts.specs.Verdict.{Showing, cites, step, entry_duties, is_goal, listing}
use Rattle.certificate_lines.specs.Line as L
use Rattle.certificate_lines.specs.Line.{Line}
use Rattle.js_rules.specs.RuleView.{rule_view}
use Rattle.js_rules.specs.Told.{Breaks}
use Rattle.js_rules.specs.declared.fault.RuleFault.{RuleFault}
use Rattle.js_rules.specs.declared.fault.RuleFault.TheVariants as F
use Rattle.js_algebra.specs.declared.node.JsonKind.{JsonKind}
use Rattle.js_algebra.specs.declared.node.JsonKind.TheVariants as K
use Rattle.js_lines.specs.View.{line_view}
use Rattle.js_lines.specs.declared.lines.CertLine.{CertLine}
use Rattle.js_lines.specs.declared.lines.CertLine.TheVariants as V
use Rattle.js_checker.specs.Duties.{any_left, Leaves, Faults}
use Rattle.js_checker.specs.TreeView.{tree_duties}
use Rattle.js_checker.specs.EntryView.{kinds_from, kind_duties, goal_duties, is_busy}
use Rattle.js_checker.specs.JudgeView.{stage_of, stage_at, shown_duties}
use Rattle.js_checker.specs.declared.entry.EntryCheck.{EntryCheck}
use Rattle.js_checker.specs.declared.judge.Judge.{Judge}
use Rattle.js_checker.specs.declared.judge.Progress.{Progress}
use Rattle.js_checker.specs.declared.judge.Progress.TheVariants as P
use Rattle.js_checker.proofs.Results.{on_ok, if_err}
use Rattle.js_checker.proofs.DutyLemmas.{more_left, leaves_more, faults_more}
use Rattle.js_checker.proofs.ShowingLemmas.{shown_on, shown_fault, entered}

idle : (ds : List Duty) (o : Option JsonKind) (g : List Signed) → (any_left ds || is_some o) ≡ false
    → ds ++ kind_duties g (kinds_from o) ≡ []
idle [] None g e = refl
idle [] (Some k) g e = cc
idle (d ∷ ds) o g e = cc

busy : (ds : List Duty) (o : Option JsonKind) (g : List Signed) → (any_left ds || is_some o) ≡ true
    → any_left (ds ++ kind_duties g (kinds_from o)) ≡ true
busy (d ∷ ds) o g e = refl
busy [] None g e = cc
busy [] (Some K.Null) g e = refl
busy [] (Some K.Boolean) g e = refl
busy [] (Some K.Number) g e = refl
busy [] (Some K.Text) g e = refl
busy [] (Some K.Array) g e = refl
busy [] (Some K.Object) g e = refl

-- something is left of the goal
pub busy_duties : (e : EntryCheck) (g : List Signed) → is_busy e ≡ true → any_left (goal_duties g e) ≡ true
busy_duties e g h = busy (tree_duties e.tree) e.kind g h

-- nothing is left of the goal
pub idle_duties : (e : EntryCheck) (g : List Signed) → is_busy e ≡ false → goal_duties g e ≡ []
idle_duties e g h = idle (tree_duties e.tree) e.kind g h

-- between goals
pub idle_stage : (j : Judge) → j.progress ≡ P.Showing → is_busy j.entry ≡ false
    → stage_of j ≡ Showing j.goals.items (entry_duties j.entered (drop j.entered j.goals.items))
idle_stage j showing h =
    let gs = j.goals.items in
    ap (λ p. stage_at p gs j.entered j.entry) showing
    ∙ ap (λ ds. Showing gs (ds ++ entry_duties j.entered (drop j.entered gs)))
    (idle (tree_duties j.entry.tree) j.entry.kind (get_or gs (j.entered - 1) []) h)

-- the next goal is entered
module _ (T : List Position) (a b : ℕ) (p : Progress) (gs : List (List Signed)) (n m : ℕ) (e f : EntryCheck) where
  pub enters : p ≡ P.Showing → is_busy e ≡ false → n < length gs → n ≡ m
      → ((g : List Signed) → goal_duties g f ≡ map (λ t. AtKind t g) all_kinds)
      → step T a b (stage_at p gs n e) (L.Entry m) ≡ Ok (stage_at p gs (n + 1) f)
  enters showing free few same duties =
      ap (λ q. step T a b (stage_at q gs n e) (L.Entry m)) showing
      ∙ ap (λ ds. step T a b (Showing gs (ds ++ entry_duties n (drop n gs))) (L.Entry m))
      (idle (tree_duties e.tree) e.kind (get_or gs (n - 1) []) free)
      ∙ ap (λ k. step T a b (Showing gs (entry_duties n (drop n gs))) (L.Entry k)) (sym same)
      ∙ entered T a b gs n (goal_duties (get_or gs n []) f) few (duties (get_or gs n []))
      ∙ ap (λ k. Ok (Showing gs (goal_duties (get_or gs k []) f ++ entry_duties (n + 1) (drop (n + 1) gs)))) count
      ∙ ap (λ q. Ok (stage_at q gs (n + 1) f)) (sym showing)
    where
      count : n ≡ n + 1 - 1
      count = omega arith

-- a list that is no goal
not_listed : {A B : Type 0} (here : Bool) (v : Result A ℕ) (x : B) (fault : RuleFault)
    → Breaks (if_so no_goal here x) fault → Breaks (cond here v (Err no_goal)) fault
not_listed here v x F.Memory h = tt
not_listed true v x (F.Breaks r) h = cc
not_listed false v x (F.Breaks r) h = let same : no_goal ≡ rule_view r = cc in ap Err same

module _ (T : List Position) (a b : ℕ) (p : Progress) (left : ℕ) (gs : List (List Signed)) (n : ℕ)
    (e : EntryCheck) where
  pub goal_faults : (l : Line) (xs ys : List Signed) (fault : RuleFault) → p ≡ P.Listing left → l ≡ L.Goal xs
      → ys ≡ xs → Breaks (if_so no_goal (is_goal T ys) ys) fault → Breaks (step T a b (stage_at p gs n e) l) fault
  goal_faults l xs ys fault lists line same h =
      subst (λ k. Breaks (step T a b (stage_at p gs n e) k) fault) (sym line)
      (subst (λ q. Breaks (step T a b (stage_at q gs n e) (L.Goal xs)) fault) (sym lists)
      (not_listed (is_goal T xs) (listing T a b left (gs ++ xs ∷ [])) xs fault
      (subst (λ zs. Breaks (if_so no_goal (is_goal T zs) zs) fault) same h)))

-- a line of the goal that was entered last
module _ {A : Type 0} (r : Result A RuleFault) (T : List Position) (a b : ℕ) (l : Line) (p : Progress)
    (gs ks : List (List Signed)) (n : ℕ) (g : List Signed) (e : EntryCheck) (showing : p ≡ P.Showing) (same : ks ≡ gs)
    (read : g ≡ get_or gs (n - 1) []) where
  pub inside_leaves : (f : EntryCheck) → OnOk r (Leaves T (cites ks) l (goal_duties g e) (goal_duties g f))
      → OnOk r (step T a b (stage_at p gs n e) l ≡ Ok (stage_at p gs n f))
  inside_leaves f = on_ok r (λ h.
      ap (λ q. step T a b (stage_at q gs n e) l) showing
      ∙ shown_on T a b gs l (shown_duties gs n e) (shown_duties gs n f) (leaves_more T (cites gs) l
      (goal_duties (get_or gs (n - 1) []) e) (entry_duties n (drop n gs)) (goal_duties (get_or gs (n - 1) []) f)
      (subst (λ ms. Leaves T (cites ms) l (goal_duties (get_or gs (n - 1) []) e)
      (goal_duties (get_or gs (n - 1) []) f)) same
      (subst (λ h. Leaves T (cites ks) l (goal_duties h e) (goal_duties h f)) read h)))
      ∙ ap (λ q. Ok (stage_at q gs n f)) (sym showing))

  pub inside_faults : is_busy e ≡ true → IfErr r (Faults T (cites ks) l (goal_duties g e))
      → IfErr r (Breaks (step T a b (stage_at p gs n e) l))
  inside_faults left = if_err r (λ fault h.
      subst (λ q. Breaks (step T a b (stage_at q gs n e) l) fault) (sym showing)
      (shown_fault T a b gs l (shown_duties gs n e) fault
      (more_left (goal_duties (get_or gs (n - 1) []) e) (entry_duties n (drop n gs))
      (busy_duties e (get_or gs (n - 1) []) left))
      (faults_more T (cites gs) l (goal_duties (get_or gs (n - 1) []) e) (entry_duties n (drop n gs)) fault
      (busy_duties e (get_or gs (n - 1) []) left)
      (subst (λ ms. Faults T (cites ms) l (goal_duties (get_or gs (n - 1) []) e) fault) same
      (subst (λ h. Faults T (cites ks) l (goal_duties h e) fault) read h)))))

module _ (T : List Position) (a b : ℕ) (gs : List (List Signed)) where
  -- a line that is neither an entry nor the end
  pub other_line : (hs : List (List Signed)) (n : ℕ) (x : CertLine) → ((m : ℕ) → x ≡ V.Entry m → ⊥)
      → (x ≡ V.End → ⊥) → step T a b (Showing gs (entry_duties n hs)) (line_view x) ≡ Err out_of_place
  other_line [] n (V.Certificate v) not_entry not_end = refl
  other_line [] n (V.Goals m) not_entry not_end = refl
  other_line [] n (V.Goal xs) not_entry not_end = refl
  other_line [] n (V.Entry m) not_entry not_end = absurd (not_entry m refl)
  other_line [] n (V.At k) not_entry not_end = refl
  other_line [] n (V.Rule x) not_entry not_end = refl
  other_line [] n (V.Clash p) not_entry not_end = refl
  other_line [] n (V.Kind x) not_entry not_end = refl
  other_line [] n V.Count not_entry not_end = refl
  other_line [] n V.Bool not_entry not_end = refl
  other_line [] n V.Number not_entry not_end = refl
  other_line [] n (V.Strings m) not_entry not_end = refl
  other_line [] n (V.Row ts) not_entry not_end = refl
  other_line [] n (V.Least ds) not_entry not_end = refl
  other_line [] n V.Array not_entry not_end = refl
  other_line [] n (V.Object r m) not_entry not_end = refl
  other_line [] n (V.Cap m bs) not_entry not_end = refl
  other_line [] n V.Split not_entry not_end = refl
  other_line [] n (V.Member m e) not_entry not_end = refl
  other_line [] n (V.Index m e) not_entry not_end = refl
  other_line [] n (V.Tail m e) not_entry not_end = refl
  other_line [] n (V.Short fs) not_entry not_end = refl
  other_line [] n V.End not_entry not_end = absurd (not_end refl)
  other_line (h ∷ hs) n (V.Certificate v) not_entry not_end = refl
  other_line (h ∷ hs) n (V.Goals m) not_entry not_end = refl
  other_line (h ∷ hs) n (V.Goal xs) not_entry not_end = refl
  other_line (h ∷ hs) n (V.Entry m) not_entry not_end = absurd (not_entry m refl)
  other_line (h ∷ hs) n (V.At k) not_entry not_end = refl
  other_line (h ∷ hs) n (V.Rule x) not_entry not_end = refl
  other_line (h ∷ hs) n (V.Clash p) not_entry not_end = refl
  other_line (h ∷ hs) n (V.Kind x) not_entry not_end = refl
  other_line (h ∷ hs) n V.Count not_entry not_end = refl
  other_line (h ∷ hs) n V.Bool not_entry not_end = refl
  other_line (h ∷ hs) n V.Number not_entry not_end = refl
  other_line (h ∷ hs) n (V.Strings m) not_entry not_end = refl
  other_line (h ∷ hs) n (V.Row ts) not_entry not_end = refl
  other_line (h ∷ hs) n (V.Least ds) not_entry not_end = refl
  other_line (h ∷ hs) n V.Array not_entry not_end = refl
  other_line (h ∷ hs) n (V.Object r m) not_entry not_end = refl
  other_line (h ∷ hs) n (V.Cap m bs) not_entry not_end = refl
  other_line (h ∷ hs) n V.Split not_entry not_end = refl
  other_line (h ∷ hs) n (V.Member m e) not_entry not_end = refl
  other_line (h ∷ hs) n (V.Index m e) not_entry not_end = refl
  other_line (h ∷ hs) n (V.Tail m e) not_entry not_end = refl
  other_line (h ∷ hs) n (V.Short fs) not_entry not_end = refl
  other_line (h ∷ hs) n V.End not_entry not_end = absurd (not_end refl)

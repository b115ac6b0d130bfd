-- An entry that was checked by itself leads on as its lines do one after another.
use Rattle.std.proofs.Common.{◌≡◌, ℕ, suc, ◌+◌, ◌<◌, List, [], ◌∷◌, ◌++◌, length, drop, get_or, nat_lt, true, false, not, ◌&&◌, Result, Ok, Err, refl, ap, ap₂, sym, ◌∙◌, subst, append_assoc, arith}
use Rattle.std.proofs.lemmas.Bool.{and_parts, true≢false, not-true}
use Rattle.std.proofs.lemmas.Bool.Decides.{nat_tests}
use Rattle.positions.specs.Position.{Position}
use Rattle.goals.specs.Signed.{Signed}
use Rattle.certificate_lines.specs.Line.{Line}
use Rattle.verdicts.specs.RowLines.{and_then}
use Rattle.verdicts.specs.Duties.{Duty, OfGoal, after, run}
use Rattle.verdicts.specs.Verdict.{Stage, Showing, Verdict, cites, go_on, judged, entry_duties}
use Rattle.js_checker.specs.Entries.{do_all, is_entry}
use Rattle.js_checker.specs.Standing.{LeadsOver}
use Rattle.js_checker.specs.EntryView.{is_busy}
use Rattle.js_checker.specs.JudgeView.{stage_of, is_showing, is_between, is_early, IsWell}
use Rattle.js_checker.specs.declared.judge.Progress.{Progress}
use Rattle.js_checker.specs.declared.judge.Progress.TheVariants as P
use Rattle.js_checker.specs.declared.judge.Judge.{Judge}
use Rattle.js_checker.proofs.ShowingLemmas.{next_goal}
use Rattle.js_checker.proofs.JudgeLemmas.{idle_stage}
use Rattle.js_checker.proofs.EntryLemmas.{nothing}

module _ (T : List Position) (a b : ℕ) (gs : List (List Signed)) where
  -- lines that do some duties leave further ones as they are
  module _ (finish : Stage → ℕ → Verdict) (rest : List Duty) (more : List Line) where
    abbrev on : List Duty → ℕ → List Line → Verdict
    on ds k ls = judged T a b finish (Showing gs ds) k ls

    lines_done : (ds es : List Duty) (ls : List Line) (k : ℕ) → run T (cites gs) ds ls ≡ Ok es
        → on (ds ++ rest) k (ls ++ more) ≡ on (es ++ rest) (k + length ls) more
    lines_done ds es [] k e =
        let same : ds ≡ es = cc in
        let count : k ≡ k + 0 = omega arith in
        ap₂ (λ fs n. on (fs ++ rest) n more) same count
    lines_done [] es (l ∷ ls) k e = cc
    lines_done (d ∷ ds) es (l ∷ ls) k e =
        go (after T (cites gs) d l) e (λ xs h. lines_done (xs ++ ds) es ls (suc k) h) where
          go : (r : Result (List Duty) ℕ) → and_then (λ xs. run T (cites gs) (xs ++ ds) ls) r ≡ Ok es
              → ((xs : List Duty) → run T (cites gs) (xs ++ ds) ls ≡ Ok es
              → on ((xs ++ ds) ++ rest) (suc k) (ls ++ more) ≡ on (es ++ rest) (suc k + length ls) more)
              → go_on T a b (λ u. judged T a b finish u (suc k) (ls ++ more)) k
              (and_then (λ xs. Ok (Showing gs (xs ++ (ds ++ rest)))) r)
              ≡ on (es ++ rest) (k + suc (length ls)) more
          go (Ok xs) h next =
              let count : suc k + length ls ≡ k + suc (length ls) = omega arith in
              ap (λ fs. on fs (suc k) (ls ++ more)) (sym (append_assoc xs ds rest)) ∙ next xs h
              ∙ ap (λ n. on (es ++ rest) n more) count
          go (Err r) h next = cc

  -- the entry of the next goal
  pub entry_leads : (n : ℕ) (ls : List Line) → is_entry T gs n ls ≡ true
      → LeadsOver T a b (Showing gs (entry_duties n (drop n gs))) ls
      (Showing gs (entry_duties (n + 1) (drop (n + 1) gs)))
  entry_leads n ls e finish k more =
      let g = get_or gs n [] in
      let rest = entry_duties (n + 1) (drop (n + 1) gs) in
      let parts = and_parts (nat_lt n (length gs)) (do_all T gs (OfGoal n g ∷ []) ls) e in
      let inside : n < length gs = grind (arith, nat_tests, parts.0) in
      ap (λ ds. judged T a b finish (Showing gs ds) k (ls ++ more)) (next_goal T a b gs n inside)
      ∙ lines_done finish rest more (OfGoal n g ∷ []) [] ls k (nothing (run T (cites gs) (OfGoal n g ∷ []) ls) parts.1)

-- between entries
showing_is : (p : Progress) → is_showing p ≡ true → p ≡ P.Showing
showing_is P.Showing e = refl
showing_is P.Start e = cc
showing_is P.Counting e = cc
showing_is (P.Listing n) e = cc
showing_is P.Ended e = cc

between : (j : Judge) → is_between j ≡ true → (j.progress ≡ P.Showing) × (is_busy j.entry ≡ false)
between j e =
    let parts = and_parts (is_showing j.progress) (not (is_busy j.entry)) e in
    (showing_is j.progress parts.0, not-true (is_busy j.entry) parts.1)

-- the judge that passed the entry
module _ (T : List Position) (j k : Judge) (n : ℕ) (ls : List Line) (idle : is_between j ≡ true)
    (passed : k ≡ record j { entered = j.entered + 1 }) (next : n ≡ j.entered)
    (entry : is_entry T j.goals.items n ls ≡ true) where
  entry_here : is_entry T j.goals.items j.entered ls ≡ true
  entry_here = subst (λ m. is_entry T j.goals.items m ls ≡ true) next entry

  pub pass_inside : j.entered < length j.goals.items
  pass_inside =
      let parts = and_parts (nat_lt j.entered (length j.goals.items))
      (do_all T j.goals.items (OfGoal j.entered (get_or j.goals.items j.entered []) ∷ []) ls) entry_here in
      grind (arith, nat_tests, parts.0)

  -- a judge that passes the entry of a goal goes on as its lines lead
  pub pass_leads : (a b : ℕ) → LeadsOver T a b (stage_of j) ls (stage_of k)
  pass_leads a b =
      let is = between j idle in
      let before = idle_stage j is.0 is.1 in
      let after = ap stage_of passed ∙ idle_stage (record j { entered = j.entered + 1 }) is.0 is.1 in
      subst (λ s. LeadsOver T a b s ls (stage_of k)) (sym before)
      (subst (LeadsOver T a b (Showing j.goals.items (entry_duties j.entered (drop j.entered j.goals.items))) ls)
      (sym after) (entry_leads T a b j.goals.items j.entered ls entry_here))

  pub pass_well : IsWell T j → IsWell T k
  pass_well w =
      let is = between j idle in
      subst (IsWell T) (sym passed) (record {
        goals = w.goals;
        over = w.over;
        steady = w.steady;
        entered = (let inside = pass_inside in omega (arith, inside));
        begun = λ e. omega arith;
        early = λ e. absurd (true≢false (sym e ∙ ap is_early is.0));
        head = w.head;
      })

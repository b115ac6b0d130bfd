-- Numbers of explored goals that no round has.
use Rattle.std.proofs.Common.{◌≡◌, ℕ, ◌<◌, Bool, true, false, cond, List, [], length, get_or, Option, Some, None, is_some, Result, Ok, Err, IfOk, refl, ap, ap₂, sym, ◌∙◌, Bor, slice_get, inl, inr, ◌≤◌}
use Rattle.std.specs.Prelude.{option_copied}
use Rattle.std.proofs.lemmas.Bool.{cases_lt}
use Rattle.std.proofs.lemmas.Option.{slice_get_within, slice_get-get_or}
use Rattle.positions.specs.Position.{Position}
use Rattle.goals.specs.Signed.{Signed}
use Rattle.alternatives.specs.Expansion.{Expansion}
use Rattle.list_laws.specs.In.{IsIn}
use Rattle.search.specs.Explored.{Found, number_in}
use Rattle.search_laws.proofs.Numbers.{number_at}
use Rattle.certificate_lines.specs.Text.{lines_text}
use Rattle.refutations.specs.GoalLines.{goal_lines}
use Rattle.refutations.specs.Listing.{cited, certificate}
use Rattle.refutations.specs.Refutation.{unless_satisfied, found_refutation}
use Rattle.refutation_laws.proofs.Cited.{cited_numbers}
use Rattle.js_explore.specs.declared.explored.Explored.{Explored}
use Rattle.js_explore.specs.ExploredView.{explored_view}
use Rattle.js_rounds.specs.declared.rounds.Rounds.{Rounds}
use Rattle.js_rounds.specs.State.{AreRounds, answer_to}
use Rattle.js_refute.specs.declared.unmet.Unmet.{Unmet}
use Rattle.js_refute.specs.Unmet.{unless_answered, goals_of, lines_of}
use Rattle.js_refute.proofs.Growing.{extend}

-- only an explored goal's number is answered
answered_number : (r : Rounds) (o : Option ℕ) (k : ℕ) → unless_answered r o ≡ Some k → o ≡ Some k
answered_number r None k e = cc e
answered_number r (Some n) k e = go (is_some (answer_to r n)) e where
  go : (b : Bool) → cond b None (Some n) ≡ Some k → Some n ≡ Some k
  go true e = cc e
  go false e = e

module _ (gs : List (List Signed)) (r : Rounds) where
  abbrev number : List Signed → Option ℕ
  number g = unless_answered r (number_in gs g)

  -- lines cite no other numbers than those of goals
  pub cited_below : (T : List Position) (g : List Signed) (j : ℕ) → IsIn j (cited (goal_lines number T g))
      → j < length gs
  cited_below T g j i =
      let (h, e) = cited_numbers number T g j i in
      slice_get_within gs j h (number_at gs h j (answered_number r (number_in gs h) j e))

-- no other numbers are listed either
pub small : (T : List Position) (u : Unmet) (k j : ℕ) → k < length (goals_of u)
    → IsIn j (extend (goals_of u) (lines_of T u) k) → j < length (goals_of u)
small T u k j l i = cited_below (goals_of u) u.rounds.now T (get_or (goals_of u) k []) j i

-- by rounds that were run, as by the definition
same_number : (expansion : List Signed → Expansion) (f : Found) (r : Rounds) → AreRounds expansion f r
    → (o : Option ℕ) → unless_answered r o ≡ unless_satisfied expansion f o
same_number expansion f r are None = refl
same_number expansion f r are (Some n) = ap (λ o. cond (is_some o) None (Some n)) (are.answers n)

-- the certificate is that of the definition
pub same_refutation : (T : List Position) (e u : Explored) (r s : Rounds) → u ≡ e → s ≡ r
    → (expansion : List Signed → Expansion) → AreRounds expansion (explored_view e).found r
    → lines_text (certificate (explored_view u).found.goals (goal_lines (number (explored_view u).found.goals s) T))
    ≡ lines_text (found_refutation expansion (explored_view e).found T)
same_refutation T e u r s p q expansion are =
    ap₂ (λ x y. lines_text (certificate (explored_view x).found.goals
    (goal_lines (number (explored_view x).found.goals y) T))) p q
    ∙ ap (λ n. lines_text (certificate f.goals (goal_lines n T)))
    (λ i g. same_number expansion f r are (number_in f.goals g) i) where
      f : Found
      f = (explored_view e).found

-- nothing is listed at that place
pub none_left : (o : Option (Bor ℕ)) (L : List ℕ) (i : ℕ) → o ≡ None → option_copied o ≡ slice_get L i → length L ≤ i
none_left o L i e h =
    elim (cases_lt i (length L)) [
      | inl l ↦ let q = slice_get-get_or L i 0 l in
          let n : None ≡ slice_get L i = ap option_copied (sym e) ∙ h in cc (q, n)
      | inr m ↦ m
    ]

-- what holds of an answer
pub if_ok : {A E : Type 0} (P Q : A → Type 0) (r : Result A E) → ((x : A) → P x → Q x) → IfOk r P → IfOk r Q
if_ok P Q (Ok x) f h = f x h
if_ok P Q (Err e) f h = tt

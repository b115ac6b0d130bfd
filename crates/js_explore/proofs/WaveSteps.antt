-- Waves: as many steps as goals that waited, and no more goals than get a number.
use Rattle.std.proofs.Common.{◌≡◌, ℕ, zero, suc, ◌+◌, ◌≤◌, ◌<◌, List, [], ◌∷◌, ◌++◌, length, get_or, Bool, true, false, cond, nat_lt, Option, Some, None, Result, Ok, Err, IfOk, slice_get, refl, ap, sym, ◌∙◌, subst, arith, length-append}
use Rattle.std.proofs.lemmas.Bool.{ltb-true}
use Rattle.std.proofs.lemmas.Option.{slice_get-get_or}
use Rattle.std.proofs.lemmas.List.FromFn.{length-range_with_len, get_or-range_with_len}
use Rattle.std.specs.List.{range_with_len}
use Rattle.documents.specs.Tests.{every}
use Rattle.goals.specs.Signed.{Signed}
use Rattle.alternatives.specs.Alternative.{named, places}
use Rattle.alternatives.specs.Limit.{Goals, Total}
use Rattle.alternatives.specs.Expansion.{Expansion, first_limit}
use Rattle.search.specs.Explored.{Found, found, is_listed, mention, mention_goals, take_goal, step, after}
use Rattle.js_expansion.specs.declared.expansion.Expansion as D
use Rattle.js_expansion.specs.ExpansionView.{expansion_view}
use Rattle.js_explore.specs.Exploration.{Exploration, GoesOn, with_answer}
use Rattle.js_explore.specs.WaveAnswers.{expansion_in, expansion_at, Gives, AnswersFrom, IsTaken}
use Rattle.js_explore.proofs.Settled.{Keeps, keeps_all}
use Rattle.js_explore.proofs.Going.{goes_on}
use Rattle.list_laws.proofs.Tests.{every_slice}

pub if_both : {A E : Type 0} {P Q R : A → Type 0} (r : Result A E) → ((x : A) → P x → Q x → R x) → IfOk r P → IfOk r Q
    → IfOk r R
if_both (Ok x) f p q = f x p q
if_both (Err e) f p q = tt

module _ (most : ℕ) where
  mention_fits : (s : Found) (g : List Signed) → length s.goals ≤ most → length (mention most s g).goals ≤ most
  mention_fits s g l = go (is_listed s.goals g) (nat_lt (length s.goals) most) refl where
    go : (a b : Bool) → nat_lt (length s.goals) most ≡ b
        → length (cond a s (cond b (found (s.goals ++ g ∷ []) s.taken s.places s.over)
        (found s.goals s.taken s.places (first_limit s.over Goals)))).goals ≤ most
    go true b e = l
    go false true e = omega (arith, length-append s.goals (g ∷ []), ltb-true (length s.goals) most e)
    go false false e = l

  all_fit : (s : Found) (xs : List (List Signed)) → length s.goals ≤ most
      → length (mention_goals most s xs).goals ≤ most
  all_fit s [] l = l
  all_fit s (x ∷ xs) l = all_fit (mention most s x) xs (mention_fits s x l)

  module _ (total : ℕ) (expansion : List Signed → Expansion) where
    -- what holds of goals before a step and after it, where a step that takes no goal keeps it
    step_cases : (P : List (List Signed) → Type 0) (s : Found) → P s.goals
        → ((xs : List (List Signed)) → P (mention_goals most s xs).goals) → P (step most total expansion s).goals
    step_cases P s same all = go (slice_get s.goals s.taken) where
      go : (o : Option (List Signed)) → P (take_goal most total expansion s o).goals
      go None = same
      go (Some g) = by (nat_lt total (s.places + places (expansion g).alternatives)) where
        by : (b : Bool) → P (cond b (found s.goals s.taken s.places (first_limit s.over Total))
            (let t = mention_goals most s (named (expansion g).alternatives) in
            found t.goals (suc t.taken) (t.places + places (expansion g).alternatives) t.over)).goals
        by true = same
        by false = all (named (expansion g).alternatives)

    step_keeps : (s : Found) → Keeps most s.goals (step most total expansion s).goals
    step_keeps s = step_cases (Keeps most s.goals) s (keeps_all most s []) (keeps_all most s)

    pub after_longer : (k : ℕ) (s : Found) → length s.goals ≤ length (after most total expansion k s).goals
    after_longer zero s = omega arith
    after_longer (suc k) s =
        omega (arith, after_longer k s, (step_keeps (after most total expansion k s)).longer)

    -- goals keep their numbers
    after_same : (k : ℕ) (s : Found) (n : ℕ) → n < length s.goals
        → slice_get (after most total expansion k s).goals n ≡ slice_get s.goals n
    after_same zero s n l = refl
    after_same (suc k) s n l =
        (step_keeps (after most total expansion k s)).same n (omega (arith, l, after_longer k s)) ∙ after_same k s n l

    after_fits : (k : ℕ) (s : Found) → length s.goals ≤ most → length (after most total expansion k s).goals ≤ most
    after_fits zero s l = l
    after_fits (suc k) s l =
        let t = after most total expansion k s in
        step_cases (λ gs. length gs ≤ most) t (after_fits k s l) (λ xs. all_fit t xs (after_fits k s l))

    -- from a root on, no more goals than get a number
    pub few_goals : (root : List Signed) (first now : Found) (n : ℕ) → first ≡ found (root ∷ []) 0 0 None → 1 ≤ most
        → now ≡ after most total expansion n first → length now.goals ≤ most
    few_goals root first now n e l f =
        let fits : length (after most total expansion n first).goals ≤ most =
        after_fits n first (omega (arith, l, ap (λ s. length s.goals) e)) in
        subst (λ s. length s.goals ≤ most) (sym f) fits

    same_turn : (m n : ℕ) (s : Found) → m ≡ n → after most total expansion m s ≡ after most total expansion n s
    same_turn m n s e = ap (λ k. after most total expansion k s) e

    after_both : (k n : ℕ) (s : Found)
        → after most total expansion k (after most total expansion n s) ≡ after most total expansion (k + n) s
    after_both zero n s = same_turn n (zero + n) s (omega arith)
    after_both (suc k) n s =
        ap (step most total expansion) (after_both k n s) ∙ same_turn (suc (k + n)) (suc k + n) s (omega arith)

    -- a wave of k steps after n steps
    pub after_wave : (first now next : Found) (n k m : ℕ) → now ≡ after most total expansion n first
        → next ≡ after most total expansion k now → m ≡ k + n → next ≡ after most total expansion m first
    after_wave first now next n k m e f g =
        f ∙ ap (after most total expansion k) e ∙ after_both k n first ∙ same_turn (k + n) m first (sym g)

    -- the answer for the goal that comes next is taken
    pub taken_on : (takes : List Signed → Bool) (e now : Exploration) (x : Expansion)
        → GoesOn most total takes expansion e → e.found.taken < length e.found.goals
        → ((g : List Signed) → takes g ≡ true → every takes (named (expansion g).alternatives) ≡ true)
        → x ≡ expansion_at expansion e.found.goals e.found.taken → now ≡ with_answer most total e x
        → GoesOn most total takes expansion now
    taken_on takes e now x h next all answer is =
        let g = get_or e.found.goals e.found.taken [] in
        let at = slice_get-get_or e.found.goals e.found.taken [] next in
        goes_on most total takes expansion e now g h at
        (all g (every_slice takes e.found.goals e.found.taken g h.takes_all at))
        (is ∙ ap (with_answer most total e) (answer ∙ ap (expansion_in expansion) at))

    -- after k answers of a wave another goal waits, and the next answer is for it
    module _ (first now : Found) (k : ℕ) (is : now ≡ after most total expansion k first)
        (count : now.taken ≡ k + first.taken) where
      pub next_waits : (n : ℕ) → first.taken + n ≤ length first.goals → k < n → now.taken < length now.goals
      next_waits n fits l =
          omega (arith, count, fits, l, after_longer k first, ap (λ s. length s.goals) is)

      pub next_answer : {F : Type 0} (answers : List (Result D.Expansion F)) (a : Result D.Expansion F)
          → first.taken + length answers ≤ length first.goals → AnswersFrom expansion first.goals first.taken answers
          → k < length answers → a ≡ get_or answers k a → Gives expansion now.goals now.taken a
      next_answer answers a fits all l item =
          let number : now.taken ≡ first.taken + k = omega (arith, count) in
          let goal : slice_get now.goals now.taken ≡ slice_get first.goals (first.taken + k) =
          ap (λ s. slice_get s.goals now.taken) is
          ∙ ap (slice_get (after most total expansion k first).goals) number
          ∙ after_same k first (first.taken + k) (omega (arith, fits, l)) in
          subst (λ o. IfOk a (λ x. expansion_view x ≡ expansion_in expansion o)) (sym goal)
          (subst (Gives expansion first.goals (first.taken + k)) (sym item) (all k a l))

-- the numbers of the goals that a wave expands
module _ (numbers : List ℕ) (from n : ℕ) (is : numbers ≡ range_with_len from n) where
  pub count : length numbers ≡ n
  count = ap length is ∙ length-range_with_len from n

  number : (i d : ℕ) → i < n → get_or numbers i d ≡ from + i
  number i d l = ap (λ ns. get_or ns i d) is ∙ get_or-range_with_len from n i d l

  pub each_taken : (takes : List Signed → Bool) (goals : List (List Signed)) → from + n ≤ length goals
      → every takes goals ≡ true → (i d : ℕ) → i < length numbers → IsTaken takes goals (get_or numbers i d)
  each_taken takes goals fits all i d l =
      (omega (arith, number i d (omega (arith, count, l)), count, l, fits), all)

  pub each_answered : {F : Type 0} (expansion : List Signed → Expansion) (goals : List (List Signed))
      (answers : List (Result D.Expansion F)) → length answers ≡ length numbers
      → ((i d : ℕ) (a : Result D.Expansion F) → i < length numbers
      → Gives expansion goals (get_or numbers i d) (get_or answers i a)) → AnswersFrom expansion goals from answers
  each_answered expansion goals answers same all = λ i a l.
      subst (λ n. Gives expansion goals n (get_or answers i a)) (number i 0 (omega (arith, count, same, l)))
      (all i 0 a (omega (arith, same, l)))

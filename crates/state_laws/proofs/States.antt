-- The state of the empty word, the state after one more character, and what a state says of matching.
use Rattle.std.proofs.lemmas.Bool.{and_parts, or_cases, or_left, or_right, cases_lt, false≢true, eqb-true}
use Rattle.std.proofs.Common.{◌≡◌, ℕ, zero, suc, ◌+◌, ◌-◌, ◌≤◌, inl, inr, Bool, true, false, ◌||◌, nat_eq, List, [], ◌∷◌, ◌++◌, length, slice_index, flat_map, if◌then◌else◌, Some, None, refl, sym, ◌∙◌, ap, subst, arith}
use Rattle.std.specs.List.{list_any}
use Rattle.patterns.specs.CharSet.{has}
use Rattle.patterns.specs.Tree.{Tree, Trees, empty, one_of, at_start, at_end, in_turn, either, repeated, no_trees, tree}
use Rattle.patterns.specs.Match.{Matches, MatchesInTurn, MatchesOne, IsFoundIn}
use Rattle.patterns.specs.Decision.{ends, is_empty, finds}
use Rattle.list_laws.proofs.Lists.{in_left, in_right, from_append, in_flat_map, from_flat_map, length-end}
use Rattle.list_laws.specs.In.{IsIn}
use Rattle.pattern_laws.proofs.Decides.{sound, complete, finds-decides}
use Rattle.word_states.specs.LastRead.{reads_end, in_copies, in_copies_on, last_read, last_read_in_turn, last_read_of_one}
use Rattle.word_states.specs.PatternState.{done, reading, without_end, all_without_end, places_to, numbers_from, is_done, read_flags, pattern_state}
use Rattle.state_laws.specs.Flow.{flag_at, is_among, ends_here, reads_next, state_with, next_state, is_accepted}
use Rattle.state_laws.specs.Laws.{BeginsWith, GoesOn, Decides}
use Rattle.state_laws.proofs.Places.{in_among, from_among, Same, same_self}
use Rattle.state_laws.proofs.Pieces.{rises, repeats_same, opened, closed}
use Rattle.state_laws.proofs.Flags.{Agrees, agrees_self, agrees_numbers}
use Rattle.state_laws.proofs.Ends.{read_open, ends_law}
use Rattle.state_laws.proofs.Next.{ends_open, next_law, earlier_index}
use Rattle.list_laws.proofs.Booleans.{same_test}
use Rattle.list_laws.proofs.Tests.{any_find}

-- ---- places
in_places : (n j : ℕ) → j ≤ n → IsIn j (places_to n)
in_places zero j l = inl (omega (arith, l))
in_places (suc n) j l =
    elim (cases_lt j (suc n)) [
      | inl a ↦ in_left j (places_to n) (suc n ∷ []) (in_places n j (omega (arith, a)))
      | inr a ↦ in_right j (places_to n) (suc n ∷ []) (inl (omega (arith, a, l)))
    ]

from_places : (n j : ℕ) → IsIn j (places_to n) → j ≤ n
from_places zero j (inl e) = omega (arith, e)
from_places zero j (inr h) = absurd h
from_places (suc n) j h =
    elim (from_append j (places_to n) (suc n ∷ []) h) [
      | inl a ↦ let l = from_places n j a in omega (arith, l)
      | inr (inl e) ↦ omega (arith, e)
      | inr (inr e) ↦ absurd e
    ]

all_places : (n : ℕ) → is_among (places_to n) n ≡ true
all_places n = in_among n (places_to n) (in_places n n (omega arith))

more_places : (n : ℕ) → Same (suc n) (places_to (suc n)) (places_to n)
more_places n = (
  λ j l h. in_places n j (omega (arith, l)),
  λ j l h. in_places (suc n) j (omega (arith, l)),
)

-- ---- a match that uses no end assertion is a match
mutual
  unopened : (t : Tree) (w : List ℕ) (i j : ℕ) → Matches (without_end t) w i j → Matches t w i j
  unopened empty w i j m = m
  unopened (one_of ranges) w i j m = m
  unopened at_start w i j m = m
  unopened at_end w i j m = absurd m
  unopened (in_turn ts) w i j m = unopened_in_turn ts w i j m
  unopened (either ts) w i j m = unopened_of_one ts w i j m
  unopened (repeated t low high) w i j (k, a, b, r) = (
    k,
    a,
    b,
    repeats_same (Matches (without_end t) w) (Matches t w) (suc j) (rises (without_end t) w)
        (λ g h l m. unopened t w g h m) k i j (omega arith) r,
  )

  unopened_in_turn : (ts : Trees) (w : List ℕ) (i j : ℕ) → MatchesInTurn (all_without_end ts) w i j
      → MatchesInTurn ts w i j
  unopened_in_turn no_trees w i j m = m
  unopened_in_turn (tree t ts) w i j (h, m, r) = (h, unopened t w i h m, unopened_in_turn ts w h j r)

  unopened_of_one : (ts : Trees) (w : List ℕ) (i j : ℕ) → MatchesOne (all_without_end ts) w i j → MatchesOne ts w i j
  unopened_of_one no_trees w i j m = absurd m
  unopened_of_one (tree t ts) w i j (inl m) = inl (unopened t w i j m)
  unopened_of_one (tree t ts) w i j (inr m) = inr (unopened_of_one ts w i j m)

mutual
  open_twice : (t : Tree) → without_end (without_end t) ≡ without_end t
  open_twice empty = refl
  open_twice (one_of ranges) = refl
  open_twice at_start = refl
  open_twice at_end = refl
  open_twice (in_turn ts) = ap in_turn (open_all_twice ts)
  open_twice (either ts) = ap either (open_all_twice ts)
  open_twice (repeated t low high) = ap (λ z. repeated z low high) (open_twice t)

  open_all_twice : (ts : Trees) → all_without_end (all_without_end ts) ≡ all_without_end ts
  open_all_twice no_trees = refl
  open_all_twice (tree t ts) =
      ap (λ z. tree z (all_without_end (all_without_end ts))) (open_twice t)
      ∙ ap (tree (without_end t)) (open_all_twice ts)

-- ---- matches that end where the word ends
ends_at_end : (t : Tree) (w : List ℕ) → is_among (flat_map (ends t w) (places_to (length w))) (length w) ≡ true
    → IsFoundIn w t
ends_at_end t w h =
    let (i, a, k) = from_flat_map (ends t w) (length w) (places_to (length w)) (from_among (length w) _ h) in
    (i, length w, from_places (length w) i a, omega arith, sound t w i (length w) k)

at_end_ends : (t : Tree) (w : List ℕ) (i : ℕ) → Matches t w i (length w)
    → is_among (flat_map (ends t w) (places_to (length w))) (length w) ≡ true
at_end_ends t w i m =
    let l : i ≤ length w = rises t w i (length w) m in
    in_among (length w) (flat_map (ends t w) (places_to (length w)))
    (in_flat_map (ends t w) (length w) i (places_to (length w)) (in_places (length w) i l)
    (complete t w i (length w) l m))

-- the flags of a word decide which matches end where it ends
open_ends : (t : Tree) (w : List ℕ) (read : ℕ → Bool) → Agrees read 0 (read_flags t w)
    → ends_here t (is_empty w) false read 0 true
    ≡ is_among (flat_map (ends (without_end t) w) (places_to (length w))) (length w)
open_ends t w read a =
    ap (ends_here t (is_empty w) false read 0) (sym (all_places (length w)))
    ∙ sym (ends_open (is_empty w) true read t 0 (is_among (places_to (length w)) (length w)))
    ∙ ends_law w read (without_end t) 0 (places_to (length w))
    (subst (Agrees read 0)
    (sym (read_open w t (places_to (length w)) (places_to (length w)) (same_self (length w) (places_to (length w))))) a)

all_ends : (t : Tree) (w : List ℕ) (read : ℕ → Bool) → Agrees read 0 (read_flags t w)
    → ends_here t (is_empty w) true read 0 true
    ≡ is_among (flat_map (ends t w) (places_to (length w))) (length w)
all_ends t w read a =
    ap (ends_here t (is_empty w) true read 0) (sym (all_places (length w)))
    ∙ ends_law w read t 0 (places_to (length w)) a

-- a match is one that uses no end assertion, or it ends where the word ends
finds_ends : (t : Tree) (w : List ℕ)
    → finds t w ≡ is_done t w || is_among (flat_map (ends t w) (places_to (length w))) (length w)
finds_ends t w = same_test _ _ to from where
  to : finds t w ≡ true
      → (is_done t w || is_among (flat_map (ends t w) (places_to (length w))) (length w)) ≡ true
  to h =
      let (i, j, a, b, m) = (finds-decides t w).0 h in
      elim (cases_lt j (length w)) [
        | inl l ↦
            or_left _ _
            ((finds-decides (without_end t) w).1
            (i, j, a, b, opened w w (length w) (omega arith) (omega arith) (λ i l. refl) t i j l m))
        | inr l ↦
            let e : j ≡ length w = omega arith in
            or_right _ _ (at_end_ends t w i (subst (λ z. Matches t w i z) e m))
      ]

  from : (is_done t w || is_among (flat_map (ends t w) (places_to (length w))) (length w)) ≡ true → finds t w ≡ true
  from h =
      elim (or_cases (is_done t w) (is_among (flat_map (ends t w) (places_to (length w))) (length w)) h) [
        | inl d ↦
            let (i, j, a, b, m) = (finds-decides (without_end t) w).0 d in
            (finds-decides t w).1 (i, j, a, b, unopened t w i j m)
        | inr e ↦ (finds-decides t w).1 (ends_at_end t w e)
      ]

-- one more character leaves the matches that use no end assertion, and adds those that end after it
done_longer : (t : Tree) (w : List ℕ) (c : ℕ)
    → is_done t (w ++ c ∷ [])
    ≡ is_done t w
    || is_among (flat_map (ends (without_end t) (w ++ c ∷ [])) (places_to (length (w ++ c ∷ []))))
    (length (w ++ c ∷ []))
done_longer t w c = same_test _ _ to from where
  to : is_done t (w ++ c ∷ []) ≡ true
      → (is_done t w
      || is_among (flat_map (ends (without_end t) (w ++ c ∷ [])) (places_to (length (w ++ c ∷ []))))
      (length (w ++ c ∷ [])))
      ≡ true
  to h =
      let (i, j, a, b, m) = (finds-decides (without_end t) (w ++ c ∷ [])).0 h in
      elim (cases_lt j (suc (length w))) [
        | inl l ↦
            or_left _ _
            ((finds-decides (without_end t) w).1 (
              i,
              j,
              omega (arith, rises (without_end t) (w ++ c ∷ []) i j m, l),
              omega (arith, l),
              subst (λ z. Matches z w i j) (open_twice t)
                  (opened (w ++ c ∷ []) w (suc (length w)) (omega (arith, length-end w c)) (omega arith)
                  (λ i l. earlier_index w c i (omega (arith, l))) (without_end t) i j l m),
            ))
        | inr l ↦
            let e : j ≡ length (w ++ c ∷ []) = omega (arith, length-end w c, l, b) in
            or_right _ _ (at_end_ends (without_end t) (w ++ c ∷ []) i
            (subst (λ z. Matches (without_end t) (w ++ c ∷ []) i z) e m))
      ]

  from : (is_done t w
      || is_among (flat_map (ends (without_end t) (w ++ c ∷ [])) (places_to (length (w ++ c ∷ []))))
      (length (w ++ c ∷ [])))
      ≡ true
      → is_done t (w ++ c ∷ []) ≡ true
  from h =
      elim (or_cases (is_done t w) _ h) [
        | inl d ↦
            let (i, j, a, b, m) = (finds-decides (without_end t) w).0 d in
            (finds-decides (without_end t) (w ++ c ∷ [])).1 (
              i,
              j,
              omega (arith, a, length-end w c),
              omega (arith, b, length-end w c),
              closed (w ++ c ∷ []) w (suc (length w)) (omega (arith, length-end w c)) (omega arith)
                  (λ i l. earlier_index w c i (omega (arith, l))) (without_end t) i j (omega (arith, b))
                  (subst (λ z. Matches z w i j) (sym (open_twice t)) m),
            )
        | inr e ↦ (finds-decides (without_end t) (w ++ c ∷ [])).1 (ends_at_end (without_end t) (w ++ c ∷ []) e)
      ]

-- ---- one more character
flags_longer : (t : Tree) (w : List ℕ) (c : ℕ)
    → read_flags t (w ++ c ∷ [])
    ≡ reads_next t (is_empty w) (is_among (numbers_from 0 (read_flags t w))) c 0 true
flags_longer t w c =
    ap (λ n. last_read t (w ++ c ∷ []) (places_to n)) (length-end w c)
    ∙ next_law w c (is_among (numbers_from 0 (read_flags t w))) t 0 (places_to (suc (length w))) (places_to (length w))
    (places_to (length w)) (more_places (length w)) (same_self (length w) (places_to (length w)))
    (agrees_numbers (read_flags t w))
    ∙ ap (reads_next t (is_empty w) (is_among (numbers_from 0 (read_flags t w))) c 0) (all_places (length w))

pub not_empty : (w : List ℕ) (c : ℕ) → is_empty (w ++ c ∷ []) ≡ false
not_empty [] c = refl
not_empty (d ∷ w) c = refl

state_longer : (t : Tree) (w : List ℕ) (c : ℕ) → is_done t w ≡ false
    → pattern_state t (w ++ c ∷ []) ≡ state_with t (read_flags t (w ++ c ∷ []))
unfolding pattern_state
state_longer t w c e =
    ap (λ b. if b then done else reading (numbers_from 0 (read_flags t (w ++ c ∷ []))))
    (done_longer t w c
    ∙ ap (λ b. b || is_among (flat_map (ends (without_end t) (w ++ c ∷ [])) (places_to (length (w ++ c ∷ []))))
    (length (w ++ c ∷ []))) e
    ∙ sym (open_ends t (w ++ c ∷ []) (flag_at (read_flags t (w ++ c ∷ []))) (agrees_self (read_flags t (w ++ c ∷ []))))
    ∙ ap (λ b. ends_here t b false (flag_at (read_flags t (w ++ c ∷ []))) 0 true) (not_empty w c))

pub state_goes_on : GoesOn
unfolding pattern_state
state_goes_on t w c = go (is_done t w) refl where
  go : (b : Bool) → is_done t w ≡ b
      → pattern_state t (w ++ c ∷ [])
      ≡ next_state t (is_empty w) c (if b then done else reading (numbers_from 0 (read_flags t w)))
  go true e =
      ap (λ b. if b then done else reading (numbers_from 0 (read_flags t (w ++ c ∷ []))))
      (done_longer t w c
      ∙ ap (λ b. b || is_among (flat_map (ends (without_end t) (w ++ c ∷ [])) (places_to (length (w ++ c ∷ []))))
      (length (w ++ c ∷ []))) e)
  go false e = state_longer t w c e ∙ ap (state_with t) (flags_longer t w c)

-- the state of a word decides whether the pattern has a match in it
pub state_decides : Decides
unfolding pattern_state
state_decides t w = go (is_done t w) refl where
  go : (b : Bool) → is_done t w ≡ b
      → finds t w ≡ is_accepted t (is_empty w) (if b then done else reading (numbers_from 0 (read_flags t w)))
  go true e =
      finds_ends t w ∙ ap (λ b. b || is_among (flat_map (ends t w) (places_to (length w))) (length w)) e
  go false e =
      finds_ends t w ∙ ap (λ b. b || is_among (flat_map (ends t w) (places_to (length w))) (length w)) e
      ∙ sym (all_ends t w (is_among (numbers_from 0 (read_flags t w))) (agrees_numbers (read_flags t w)))

-- ---- the empty word
abbrev never : ℕ → Bool
never p = false

agrees_both : (base : ℕ) (bs cs : List Bool) → Agrees never base bs → Agrees never (base + length bs) cs
    → Agrees never base (bs ++ cs)
agrees_both base [] cs a b = subst (λ k. Agrees never k cs) (omega arith) b
agrees_both base (x ∷ bs) cs (e, a) b =
    (e, agrees_both (suc base) bs cs a (subst (λ k. Agrees never k cs) (omega arith) b))

none_copies : (reads : List ℕ → List Bool) (step : List ℕ → List ℕ)
    → ((base : ℕ) (xs : List ℕ) → Agrees never base (reads xs)) → (n base : ℕ) (xs : List ℕ)
    → Agrees never base (in_copies reads step n xs)
none_copies reads step f zero base xs = tt
none_copies reads step f (suc n) base xs =
    agrees_both base (reads xs) (in_copies reads step n (step xs)) (f base xs)
    (none_copies reads step f n (base + length (reads xs)) (step xs))

none_copies_on : (reads : List ℕ → List Bool) (step more : List ℕ → List ℕ)
    → ((base : ℕ) (xs : List ℕ) → Agrees never base (reads xs)) → (n base : ℕ) (xs : List ℕ)
    → Agrees never base (in_copies_on reads step more n xs)
none_copies_on reads step more f zero base xs = f base (more xs)
none_copies_on reads step more f (suc n) base xs =
    agrees_both base (reads xs) (in_copies_on reads step more n (step xs)) (f base xs)
    (none_copies_on reads step more f n (base + length (reads xs)) (step xs))

none_at_end : (ranges : List (ℕ × ℕ)) (xs : List ℕ) → false ≡ list_any (reads_end ranges []) xs
none_at_end ranges xs =
    same_test _ _ (λ h. absurd (false≢true h))
    (λ h. let (i, a, t) = any_find (reads_end ranges []) xs h in
    let (u, v) = and_parts (nat_eq (suc i) 0) (has ranges (slice_index [] i)) t in
    let e : suc i ≡ 0 = eqb-true (suc i) 0 u in
    absurd (omega (arith, e)))

mutual
  none_read : (t : Tree) (base : ℕ) (xs : List ℕ) → Agrees never base (last_read t [] xs)
  none_read empty base xs = tt
  none_read (one_of ranges) base xs = (none_at_end ranges xs, tt)
  none_read at_start base xs = tt
  none_read at_end base xs = tt
  none_read (in_turn ts) base xs = none_read_in_turn ts base xs
  none_read (either ts) base xs = none_read_of_one ts base xs
  none_read (repeated t low None) base xs =
      none_copies_on (λ some. last_read t [] some) (flat_map (ends t [])) (flat_map (ends (repeated t 0 None) []))
      (none_read t) (low - 1) base xs
  none_read (repeated t low (Some high)) base xs =
      none_copies (λ some. last_read t [] some) (flat_map (ends t [])) (none_read t) high base xs

  none_read_in_turn : (ts : Trees) (base : ℕ) (xs : List ℕ) → Agrees never base (last_read_in_turn ts [] xs)
  none_read_in_turn no_trees base xs = tt
  none_read_in_turn (tree t ts) base xs =
      agrees_both base (last_read t [] xs) _ (none_read t base xs)
      (none_read_in_turn ts (base + length (last_read t [] xs)) (flat_map (ends t []) xs))

  none_read_of_one : (ts : Trees) (base : ℕ) (xs : List ℕ) → Agrees never base (last_read_of_one ts [] xs)
  none_read_of_one no_trees base xs = tt
  none_read_of_one (tree t ts) base xs =
      agrees_both base (last_read t [] xs) _ (none_read t base xs)
      (none_read_of_one ts (base + length (last_read t [] xs)) xs)

no_numbers : (k base : ℕ) (bs : List Bool) → Agrees never base bs → numbers_from k bs ≡ []
no_numbers k base [] a = refl
no_numbers k base (true ∷ bs) (e, a) = absurd (false≢true e)
no_numbers k base (false ∷ bs) (e, a) = no_numbers (suc k) (suc base) bs a

-- without characters a match is found where one ends at the end
found_in_none : (t : Tree) → is_done t [] ≡ is_among (flat_map (ends (without_end t) []) (places_to 0)) 0
found_in_none t =
    same_test _ _
    (λ h. let (i, j, a, b, m) = (finds-decides (without_end t) []).0 h in
    at_end_ends (without_end t) [] i (subst (λ z. Matches (without_end t) [] i z) (omega arith) m))
    (λ h. (finds-decides (without_end t) []).1 (ends_at_end (without_end t) [] h))

pub state_begins : BeginsWith
unfolding pattern_state
state_begins t =
    ap (λ b. if b then done else reading (numbers_from 0 (read_flags t [])))
    (found_in_none t ∙ sym (open_ends t [] never (none_read t 0 (places_to 0))))
    ∙ ap (λ ps. if ends_here t true false never 0 true then done else reading ps)
    (no_numbers 0 0 (read_flags t []) (none_read t 0 (places_to 0)))

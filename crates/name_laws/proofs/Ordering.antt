-- Positions of rising rank depend only on those before them.
use Rattle.std.proofs.Common.{◌≡◌, ℕ, ◌+◌, ◌<◌, List, [], ◌∷◌, ◌++◌, filter, get_or, Bool, true, false, ◌||◌, not, cond, if◌then◌else◌, ◌⊎◌, nat_eq, inl, inr, eqb-true, refl, ap, sym, ◌∙◌, subst, append_assoc, arith}
use Rattle.std.specs.List.{AllByRecursion}
use Rattle.std.specs.List.Sorted.{IsPermutation}
use Rattle.std.proofs.lemmas.Bool.{and_parts, and_from, or_cases, or_left, or_right, leb-true, true≢false}
use Rattle.documents.specs.Tests.{every}
use Rattle.word_states.specs.Atom as W
use Rattle.word_states.specs.Atom.{Atom}
use Rattle.positions.specs.Position.{Position, Words, Match, LengthMin, LengthMax, position_at, is_table}
use Rattle.list_laws.proofs.Elements.{some-append, every-weaker}
use Rattle.position_laws.proofs.Tables.{is_table-fall}
use Rattle.name_truths.specs.NameTruth.{asked_of_string, own_atoms}
use Rattle.name_laws.specs.Plans.{is_leaf, has_place, asks_earlier, IsPlan, atoms_of, rises}
use Rattle.name_laws.specs.Searches.{AreReached}
use Rattle.name_laws.proofs.Tests.{every-has, has-left, has-right, has-all, some-permuted, every-permuted}
use Rattle.name_laws.proofs.Searching.{asked-fall}

-- none of rising positions is of lesser rank than the first
not-lower : (ranks : List ℕ) (p : ℕ) (ps : List ℕ) (c : ℕ) → rises ranks (p ∷ ps) ≡ true
    → get_or ranks c 0 < get_or ranks p 0 → has_place (p ∷ ps) c ≡ true → ⊥
not-lower ranks p ps c r l h =
    let no_lower = (and_parts _ (rises ranks ps) r).0 in
    elim (or_cases (nat_eq c p) (has_place ps c) h) [
      | inl a ↦ omega (arith, l, ap (λ k. get_or ranks k 0) (eqb-true c p a))
      | inr b ↦ omega (arith, l, leb-true _ _ (every-has _ ps c no_lower b))
    ]

module _ (T : List Position) (ranks : List ℕ) (found : List ℕ) where
  IsClosed : List ℕ → Type 0
  IsClosed ps = every (λ q. every (has_place found) (asked_of_string (position_at T q))) ps ≡ true

  -- all are seen or are still to come, so what a position depends on, being of lesser rank, was seen
  pub rises-earlier :
      ((p : ℕ) → AllByRecursion (λ q. get_or ranks q 0 < get_or ranks p 0) (asked_of_string (position_at T p)))
      → (seen ps : List ℕ) → every (has_place (seen ++ ps)) found ≡ true
      → every (λ q. every (has_place found) (asked_of_string (position_at T q))) ps ≡ true
      → rises ranks ps ≡ true → asks_earlier T seen ps ≡ true
  rises-earlier fall seen [] all closed r = refl
  rises-earlier fall seen (p ∷ ps) all closed r =
      let (here, more) =
      and_parts (every (has_place found) (asked_of_string (position_at T p))) _ closed in
      and_from _ _ (each (asked_of_string (position_at T p)) here (fall p))
      (rises-earlier fall (seen ++ p ∷ []) ps
      (ap (λ xs. every (has_place xs) found) (append_assoc seen (p ∷ []) ps) ∙ all) more
      (and_parts _ (rises ranks ps) r).1)
    where
      each : (cs : List ℕ) → every (has_place found) cs ≡ true
          → AllByRecursion (λ q. get_or ranks q 0 < get_or ranks p 0) cs → every (has_place seen) cs ≡ true
      each [] g h = refl
      each (c ∷ cs) g h =
          let (one, others) = and_parts (has_place found c) (every (has_place found) cs) g in
          let either : (has_place seen c || has_place (p ∷ ps) c) ≡ true =
          sym (some-append (nat_eq c) seen (p ∷ ps)) ∙ every-has (has_place (seen ++ p ∷ ps)) found c all one in
          and_from (has_place seen c) (every (has_place seen) cs)
          (elim (or_cases (has_place seen c) (has_place (p ∷ ps) c) either) [
            | inl a ↦ a
            | inr b ↦ absurd (not-lower ranks p ps c r h.0 b)
          ]) (each cs others h.1)

-- leaves and others

every-filter : {A : Type 0} (f p : A → Bool) (xs : List A) → every f xs ≡ true → every f (filter p xs) ≡ true
every-filter f p [] h = refl
every-filter f p (x ∷ xs) h =
    let (one, more) = and_parts (f x) (every f xs) h in go (p x) one (every-filter f p xs more) where
      go : (b : Bool) → f x ≡ true → every f (filter p xs) ≡ true
          → every f (cond b (x ∷ filter p xs) (filter p xs)) ≡ true
      go true one more = and_from (f x) _ one more
      go false one more = more

every-passed : {A : Type 0} (p : A → Bool) (xs : List A) → every p (filter p xs) ≡ true
every-passed p [] = refl
every-passed p (x ∷ xs) = go (p x) refl (every-passed p xs) where
  go : (b : Bool) → p x ≡ b → every p (filter p xs) ≡ true
      → every p (cond b (x ∷ filter p xs) (filter p xs)) ≡ true
  go true e h = and_from (p x) _ e h
  go false e h = h

-- each is among those that pass or those that don't
has-either : (p : ℕ → Bool) (xs : List ℕ) (q : ℕ) → has_place xs q ≡ true
    → has_place (filter p xs ++ filter (λ x. not (p x)) xs) q ≡ true
has-either p [] q h = h
has-either p (x ∷ xs) q h = go (p x) (or_cases (nat_eq q x) (has_place xs q) h) (λ b. has-either p xs q b) where
  F : List ℕ
  F = filter p xs

  G : List ℕ
  G = filter (λ y. not (p y)) xs

  go : (b : Bool) → (nat_eq q x ≡ true) ⊎ (has_place xs q ≡ true)
      → (has_place xs q ≡ true → has_place (F ++ G) q ≡ true)
      → has_place (cond b (x ∷ F) F ++ cond (not b) (x ∷ G) G) q ≡ true
  go true (inl a) more = or_left (nat_eq q x) (has_place (F ++ G) q) a
  go true (inr b) more = or_right (nat_eq q x) (has_place (F ++ G) q) (more b)
  go false (inl a) more = has-right F (x ∷ G) q (or_left (nat_eq q x) (has_place G q) a)
  go false (inr b) more =
      elim (or_cases (has_place F q) (has_place G q) (sym (some-append (nat_eq q) F G) ∙ more b)) [
        | inl c ↦ has-left F (x ∷ G) q c
        | inr c ↦ has-right F (x ∷ G) q (or_right (nat_eq q x) (has_place G q) c)
      ]

-- positions that are no leaf have no atom of their own
own-none : (P : Position) → is_leaf P ≡ false → own_atoms P ≡ []
own-none (Words ws) h = absurd (true≢false h)
own-none (Match r) h = absurd (true≢false h)
own-none (LengthMin n) h = go (nat_eq n 0) h where
  go : (b : Bool) → not b ≡ false → (if b then [] else W.LengthMin n ∷ []) ≡ []
  go true e = refl
  go false e = absurd (true≢false e)
own-none (LengthMax n) h = absurd (true≢false h)
own-none _ h = refl

-- so the atoms are those of the leaves
pub leaves-atoms : (T : List Position) (qs : List ℕ)
    → atoms_of T (filter (λ q. is_leaf (position_at T q)) qs) ≡ atoms_of T qs
leaves-atoms T [] = refl
leaves-atoms T (q ∷ qs) = go (is_leaf (position_at T q)) refl (leaves-atoms T qs) where
  go : (b : Bool) → is_leaf (position_at T q) ≡ b
      → atoms_of T (filter (λ k. is_leaf (position_at T k)) qs) ≡ atoms_of T qs
      → atoms_of T (cond b (q ∷ filter (λ k. is_leaf (position_at T k)) qs)
      (filter (λ k. is_leaf (position_at T k)) qs))
      ≡ atoms_of T (q ∷ qs)
  go true e h = ap (λ xs. own_atoms (position_at T q) ++ xs) h
  go false e h = h ∙ sym (ap (λ xs. xs ++ atoms_of T qs) (own-none (position_at T q) e))

module _ (T : List Position) (ranks : List ℕ) (e : is_table T ranks ≡ true) where
  abbrev leaf_at : ℕ → Bool
  leaf_at q = is_leaf (position_at T q)

  -- the leaves of what was found, and the others by rank, are a plan
  pub plan-made : (p : ℕ) (found inner : List ℕ) → AreReached T p found
      → IsPermutation (filter (λ q. not (is_leaf (position_at T q))) found) inner → rises ranks inner ≡ true
      → IsPlan T (record { root = p; leaves = filter (λ q. is_leaf (position_at T q)) found; inner = inner })
  plan-made p found inner r m rising = record {
    leaves_within = every-filter _ leaf_at found r.within;
    inner_within = permuted _ (every-filter _ other found r.within);
    has_root = all p r.has_root;
    leaves_only = every-passed leaf_at found;
    inner_only = permuted _ (every-passed other found);
    ordered =
        rises-earlier T ranks found falls leaves inner (every-from (has_place (leaves ++ inner)) found all)
        (permuted _ (every-filter _ other found r.closed)) rising;
  } where
    other : ℕ → Bool
    other q = not (is_leaf (position_at T q))

    leaves : List ℕ
    leaves = filter (λ q. is_leaf (position_at T q)) found

    permuted : (f : ℕ → Bool) → every f (filter (λ q. not (is_leaf (position_at T q))) found) ≡ true
        → every f inner ≡ true
    permuted f h = every-permuted f (filter other found) inner m h

    falls : (q : ℕ) → AllByRecursion (λ k. get_or ranks k 0 < get_or ranks q 0) (asked_of_string (position_at T q))
    falls q =
        let same : 0 + q ≡ q = omega arith in
        subst (λ i. AllByRecursion (λ k. get_or ranks k 0 < get_or ranks i 0) (asked_of_string (position_at T q))) same
        (asked-fall ranks 0 T (is_table-fall T ranks e) q)

    all : (q : ℕ) → has_place found q ≡ true → has_place (leaves ++ inner) q ≡ true
    all q h =
        elim (or_cases (has_place leaves q) (has_place (filter other found) q)
        (sym (some-append (nat_eq q) leaves (filter other found)) ∙ has-either leaf_at found q h)) [
          | inl a ↦ has-left leaves inner q a
          | inr b ↦
              has-right leaves inner q (sym (some-permuted (nat_eq q) (filter other found) inner m) ∙ b)
        ]

    every-from : (f : ℕ → Bool) (xs : List ℕ) → ((q : ℕ) → has_place xs q ≡ true → f q ≡ true)
        → every f xs ≡ true
    every-from f xs h = every-weaker (has_place xs) f xs (λ x k. h x k) (has-all xs)

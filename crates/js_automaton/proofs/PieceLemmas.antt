-- Pieces that no divider cuts.
use Rattle.std.proofs.Common.{◌≡◌, ℕ, zero, suc, ◌+◌, ◌<◌, ◌≤◌, Bool, true, false, ◌&&◌, ◌||◌, not, nat_eq, nat_le, nat_lt, min, if◌then◌else◌, List, [], ◌∷◌, ◌++◌, length, drop, get_or, refl, sym, ◌∙◌, ap, ap₂, subst, ◌⊎◌, inl, inr, eqb, arith, add-one}
use Rattle.std.proofs.Math.Seq.{drop-cons}
use Rattle.std.specs.Bool.{beq}
use Rattle.std.specs.List.{Contains, dedup}
use Rattle.std.specs.List.Sorted.{IsPermutation, IsPartitionedBy, IsSorted, IsStrictlyIncreasing}
use Rattle.std.specs.Ordering.{nat_cmp}
use Rattle.std.proofs.lemmas.List.Kept.{Contains-dedup_nat}
use Rattle.std.proofs.lemmas.List.Sorted.{Contains-permutation, IsPartitionedBy-ltb, IsNonDecreasingBy-from_default}
use Rattle.std.proofs.lemmas.Map.Keys.{below_from_sorted, sorted_from_strictly_increasing, IsStrictlyIncreasing-dedup}
use Rattle.std.proofs.lemmas.List.Elements.{Contains-push, Contains-append_left}
use Rattle.std.proofs.lemmas.Bool.Decides.{nat_tests}
use Rattle.std.proofs.lemmas.Bool.{cases_lt}
use Rattle.patterns.specs.CharSet.{has, is_within}
use Rattle.word_states.specs.Classes.{are_alike}
use Rattle.js_automaton.specs.Pieces.{AreTogether, are_like, AreKept, HasEnds, HasEach, AreRising, ArePlaces}
use Rattle.list_laws.proofs.Booleans.{eq-beq}

pub kept-together : (old new : List ℕ) (c d : ℕ) → AreKept old new → AreTogether new c d → AreTogether old c d
kept-together old new c d k t = (t.0, t.1, λ x m. t.2 x (k x m))

-- places that were kept are kept when one more comes behind them
pub kept-push : (old new now : List ℕ) (x : ℕ) → AreKept old new → now ≡ new ++ x ∷ [] → AreKept old now
kept-push old new now x k e y m = rw e (Contains-append_left new (x ∷ []) y (k y m))

pub pushed : (old now : List ℕ) (x : ℕ) → now ≡ old ++ x ∷ [] → Contains now x
pushed old now x e = rw e (Contains-push old x)

-- no place lies in a range's inside
within_ends : (a b c d : ℕ) → c < 0x110000 → d < 0x110000 → nat_le a c ≡ nat_le a d
    → nat_le (min (b + 1) 0xffffffff) c ≡ nat_le (min (b + 1) 0xffffffff) d → is_within (a, b) c ≡ is_within (a, b) d
within_ends a b c d p q e f = grind (arith, nat_tests)

pub ends-within : (places : List ℕ) (a b e c d : ℕ) → Contains places a → Contains places e
    → e ≡ min (b + 1) 0xffffffff → AreTogether places c d → is_within (a, b) c ≡ is_within (a, b) d
ends-within places a b e c d m n is t =
    within_ends a b c d t.0 t.1 (t.2 a m) (ap (λ z. nat_le z c) (sym is) ∙ t.2 e n ∙ ap (λ z. nat_le z d) is)

-- what the ranges from place i on say is all that is left to say
abbrev pub RestSays : List ℕ → List (ℕ × ℕ) → ℕ → Type 0
RestSays places rs i =
    (c d : ℕ) → AreTogether places c d → has (drop i rs) c ≡ has (drop i rs) d → has rs c ≡ has rs d

pub has_rest : (rs : List (ℕ × ℕ)) (i : ℕ) (r : ℕ × ℕ) (c : ℕ) → i < length rs → r ≡ get_or rs i r
    → has (drop i rs) c ≡ (is_within r c || has (drop (i + 1) rs) c)
has_rest rs i r c within is = rw (add-one, drop-cons rs i r, ← is) refl

pub has_none : (rs : List (ℕ × ℕ)) (i c : ℕ) → length rs ≤ i → has (drop i rs) c ≡ false
has_none [] zero c h = refl
has_none [] (suc i) c h = refl
has_none (r ∷ rs) zero c h = absurd (omega (arith, h))
has_none (r ∷ rs) (suc i) c h = has_none rs i c (omega (arith, h))

pub says-next : (old mid new : List ℕ) (rs : List (ℕ × ℕ)) (i : ℕ) (r : ℕ × ℕ) (e : ℕ) → RestSays old rs i
    → i < length rs → r ≡ get_or rs i r → mid ≡ old ++ r.0 ∷ [] → new ≡ mid ++ e ∷ []
    → e ≡ min (r.1 + 1) 0xffffffff → RestSays new rs (i + 1)
says-next old mid new rs i r e says within is m n s c d t same =
    says c d (kept-together old new c d (kept-push old mid new e (kept-push old old mid r.0 (λ x h. h) m) n) t)
    (has_rest rs i r c within is
    ∙ ap₂ (λ x y. x || y)
    (ends-within new r.0 r.1 e c d (kept-push mid mid new e (λ x h. h) n r.0 (pushed old mid r.0 m))
    (pushed mid new e n) s t)
    same
    ∙ sym (has_rest rs i r d within is))

pub says-all : (places : List ℕ) (rs : List (ℕ × ℕ)) (i : ℕ) → RestSays places rs i → length rs ≤ i → HasEnds places rs
says-all places rs i says past c d t = says c d t (has_none rs i c past ∙ sym (has_none rs i d past))

-- ---- letters
abbrev pub RestEach : List ℕ → List (ℕ × ℕ) → ℕ → Type 0
RestEach places rs i =
    (c d : ℕ) → AreTogether places c d → has rs c ≡ true → (c ≡ d) ⊎ (has (drop i rs) c ≡ true)

pub each-next : (old new : List ℕ) (rs : List (ℕ × ℕ)) (i : ℕ) (r : ℕ × ℕ) → RestEach old rs i → i < length rs
    → r ≡ get_or rs i r → AreKept old new → HasEach new (is_within r) → RestEach new rs (i + 1)
each-next old new rs i r rest within is kept each c d t h =
    elim (rest c d (kept-together old new c d kept t) h) [
      | inl e ↦ inl e
      | inr m ↦ elim (or_cases (is_within r c) (has (drop (i + 1) rs) c) (sym (has_rest rs i r c within is) ∙ m)) [
        | inl w ↦ inl (each c d t w)
        | inr n ↦ inr n
      ]
    ] where
      or_cases : (a b : Bool) → (a || b) ≡ true → (a ≡ true) ⊎ (b ≡ true)
      or_cases true b e = inl refl
      or_cases false b e = inr e

pub each-all : (places : List ℕ) (rs : List (ℕ × ℕ)) (i : ℕ) → RestEach places rs i → length rs ≤ i
    → HasEach places (has rs)
each-all places rs i rest past c d t h = elim (rest c d t h) [
  | inl e ↦ e
  | inr m ↦ let n = has_none rs i c past in absurd (cc (m, n))
]

pub span-next : (old new : List ℕ) (low place : ℕ) → ((x : ℕ) → low ≤ x → x < place → Contains old x)
    → new ≡ old ++ place ∷ [] → (x : ℕ) → low ≤ x → x < place + 1 → Contains new x
span-next old new low place span is x a b = elim (cases_lt x place) [
  | inl l ↦ kept-push old old new place (λ y m. m) is x (span x a l)
  | inr m ↦ let q : place ≡ x = omega (arith, m, b) in subst (λ z. Contains new z) q (pushed old new place is)
]

at_both : (c d : ℕ) → nat_le c c ≡ nat_le c d → nat_le (c + 1) c ≡ nat_le (c + 1) d → c ≡ d
at_both c d e f = grind (arith, nat_tests)

-- places at all characters of a range but the last, at the last and after it
pub span-each : (places : List ℕ) (low high place e : ℕ) → ((x : ℕ) → low ≤ x → x < place → Contains places x)
    → high ≤ place → Contains places high → Contains places e → e ≡ min (high + 1) 0xffffffff
    → HasEach places (is_within (low, high))
span-each places low high place e span past last after is c d t h =
    let (a, b) = bounds h in at_both c d (t.2 c (at c a b)) (t.2 (c + 1) (next b (cases_lt c high))) where
      bounds : is_within (low, high) c ≡ true → (low ≤ c) × (c ≤ high)
      bounds e = (grind (arith, nat_tests), grind (arith, nat_tests))

      at : (x : ℕ) → low ≤ x → x ≤ high → Contains places x
      at x a b = elim (cases_lt x high) [
        | inl l ↦ span x a (omega (arith, l, past))
        | inr m ↦
            let q : high ≡ x = omega (arith, m, b) in subst (λ z. Contains places z) q last
      ]

      next : c ≤ high → (c < high) ⊎ (high ≤ c) → Contains places (c + 1)
      next b (inl l) = let (a, u) = bounds h in at (c + 1) (omega (arith, a)) (omega (arith, l))
      next b (inr m) =
          let top = t.0 in
          let q : e ≡ c + 1 = omega (arith, is, m, b, top) in subst (λ z. Contains places z) q after

-- ---- the places of all sets
abbrev pub RestLike : List ℕ → List (List (ℕ × ℕ)) → ℕ → Type 0
RestLike places sets i =
    (c d : ℕ) → AreTogether places c d → are_alike (drop i sets) c d ≡ true → are_alike sets c d ≡ true

pub alike_rest : (sets : List (List (ℕ × ℕ))) (i : ℕ) (s : List (ℕ × ℕ)) (c d : ℕ) → i < length sets
    → s ≡ get_or sets i s → are_alike (drop i sets) c d ≡ (beq (has s c) (has s d) && are_alike (drop (i + 1) sets) c d)
alike_rest sets i s c d within is = rw (add-one, drop-cons sets i s, ← is) refl

pub alike_none : (sets : List (List (ℕ × ℕ))) (i c d : ℕ) → length sets ≤ i → are_alike (drop i sets) c d ≡ true
alike_none [] zero c d h = refl
alike_none [] (suc i) c d h = refl
alike_none (r ∷ rs) zero c d h = absurd (omega (arith, h))
alike_none (r ∷ rs) (suc i) c d h = alike_none rs i c d (omega (arith, h))

-- the places and the letters, before the sets are gone through and while they are
pub record ArePlacesSoFar (places : List ℕ) (sets : List (List (ℕ × ℕ))) (letters : List (ℕ × ℕ)) (i : ℕ) : Type 0 where
  pub first : Contains places 0
  pub low : Contains places 0xd800
  pub high : Contains places 0xe000
  pub end : Contains places 0x110000
  pub each : HasEach places (has letters)
  pub rest : RestLike places sets i

pub places-start : (old new : List ℕ) (sets : List (List (ℕ × ℕ))) (letters : List (ℕ × ℕ))
    → old ≡ 0 ∷ 0xd800 ∷ 0xe000 ∷ 0x110000 ∷ [] → AreKept old new → HasEach new (has letters)
    → ArePlacesSoFar new sets letters 0
places-start old new sets letters is kept each = record {
  first = kept 0 (subst (λ xs. Contains xs 0) (sym is) (0, omega arith, refl));
  low = kept 0xd800 (subst (λ xs. Contains xs 0xd800) (sym is) (1, omega arith, refl));
  high = kept 0xe000 (subst (λ xs. Contains xs 0xe000) (sym is) (2, omega arith, refl));
  end = kept 0x110000 (subst (λ xs. Contains xs 0x110000) (sym is) (3, omega arith, refl));
  each = each;
  rest = λ c d t e. e;
}

pub places-next : (old new : List ℕ) (sets : List (List (ℕ × ℕ))) (letters : List (ℕ × ℕ)) (i : ℕ) (s : List (ℕ × ℕ))
    → ArePlacesSoFar old sets letters i → i < length sets → s ≡ get_or sets i s → AreKept old new → HasEnds new s
    → ArePlacesSoFar new sets letters (i + 1)
places-next old new sets letters i s p within is kept ends = record {
  first = kept 0 p.first;
  low = kept 0xd800 p.low;
  high = kept 0xe000 p.high;
  end = kept 0x110000 p.end;
  each = λ c d t. p.each c d (kept-together old new c d kept t);
  rest = λ c d t e. p.rest c d (kept-together old new c d kept t)
      (alike_rest sets i s c d within is ∙ ap₂ (λ x y. x && y) (eq-beq (has s c) (has s d) (ends c d t)) e);
}

together-sym : (places : List ℕ) (c d : ℕ) → AreTogether places c d → AreTogether places d c
together-sym places c d t = (t.1, t.0, λ x m. sym (t.2 x m))

same_letter : (p q cd : Bool) → (p ≡ true → cd ≡ true) → (q ≡ true → p ≡ true) → (if p then cd else not q) ≡ true
same_letter true q cd f g = f refl
same_letter false true cd f g = absurd (cc (g refl))
same_letter false false cd f g = refl

pub places-all : (places : List ℕ) (sets : List (List (ℕ × ℕ))) (letters : List (ℕ × ℕ)) (i : ℕ)
    → ArePlacesSoFar places sets letters i → length sets ≤ i → ArePlaces places (are_like sets letters)
places-all places sets letters i p past = record {
  first = p.first;
  low = p.low;
  high = p.high;
  end = p.end;
  like = λ c d t. ap₂ (λ x y. x && y)
      (same_letter (has letters c) (has letters d) (nat_eq c d)
      (λ h. let q : c ≡ d = p.each c d t h in grind (arith, nat_tests))
      (λ h. let q : d ≡ c = p.each d c (together-sym places c d t) h in ap (has letters) (sym q) ∙ h))
      (p.rest c d t (alike_none sets i c d past));
}

pub places-kept : (old new : List ℕ) (test : ℕ → ℕ → Bool) → AreKept old new → ArePlaces old test → ArePlaces new test
places-kept old new test kept p = record {
  first = kept 0 p.first;
  low = kept 0xd800 p.low;
  high = kept 0xe000 p.high;
  end = kept 0x110000 p.end;
  like = λ c d t. p.like c d (kept-together old new c d kept t);
}

-- sorted, and each once
pub kept-sorted : (old mid new : List ℕ) → IsPermutation old mid → new ≡ dedup eqb mid → AreKept old new
kept-sorted old mid new p e x m = rw e (Contains-dedup_nat mid x (Contains-permutation old mid x p m))

pub rising-sorted : (mid new : List ℕ) → IsSorted nat_cmp mid → new ≡ dedup eqb mid → AreRising new
rising-sorted mid new s e i j less within =
    below_from_sorted new i j 0
    (sorted_from_strictly_increasing new (subst (λ xs. IsStrictlyIncreasing xs) (sym e)
    (IsStrictlyIncreasing-dedup mid s)))
    less within

-- what comes before a place stands before what doesn't
pub rising-parted : (starts : List ℕ) (place : ℕ) → AreRising starts → IsPartitionedBy (λ x. nat_lt x place) starts
rising-parted starts place rising =
    IsPartitionedBy-ltb (λ x. x) starts place (IsNonDecreasingBy-from_default (λ x. x) starts 0
    (λ i j le within. elim (cases_lt i j) as (λ _. get_or starts i 0 ≤ get_or starts j 0) [
      | inl less ↦ omega (arith, rising i j less within)
      | inr more ↦
          let same : i ≡ j = omega (arith, le, more) in
          subst (λ k. get_or starts i 0 ≤ get_or starts k 0) same (omega arith)
    ]))

-- Which tables lead in a circle, and the cycle that is reported, worked out.
use Rattle.std.proofs.Common.{◌≡◌, ℕ, zero, suc, ◌<◌, ◌≤◌, List, [], ◌∷◌, inl, inr, Bool, true, false, ◌&&◌, ◌||◌, not, nat_eq, nat_le, Some, codes, refl, sym, ◌∙◌, subst, arith, true≢false}
use Rattle.std.proofs.lemmas.Bool.{and_parts, or_cases, eqb-true, leb-true, not-true, cases_order}
use Rattle.documents.specs.Tests.{every}
use Rattle.schemas.specs.Entry.{Each, Names, Whole, Entry, Ref, Asks, no_keywords, entry}
use Rattle.schemas.specs.Guarded.{edges, targets, is_among, leads, IsOnCycle, IsGuarded, IsNext, IsLeastOnCycle, IsLeastCycle, are_ranks}
use Rattle.schema_laws.proofs.Ways.{off_cycle, IsLeastCycle-one}
use Rattle.schema_laws.proofs.Ranks.{every-at, IsGuarded-ranks}

-- each kind of in-place edge: `allOf`, `anyOf`, `oneOf`, `not`, the schemas of `dependencies`, and `$ref`
kinds : edges (entry [] (Asks (record no_keywords {
  all_of = Some (1 ∷ []);
  any_of = Some (2 ∷ 3 ∷ []);
  one_of = Some (4 ∷ []);
  not = Some 5;
  dependencies = Some ((codes "a", Names (codes "b" ∷ [])) ∷ (codes "c", Whole 6) ∷ []);
})) ∷ entry [] (Ref 0) ∷ [])
    ≡ (1 ∷ 2 ∷ 3 ∷ 4 ∷ 5 ∷ 6 ∷ []) ∷ (0 ∷ []) ∷ []
kinds = refl

-- parts of a document are no edges, so {"items":{"$ref":"#"},"properties":{"a":{"$ref":"#"}}} leads in no circle
abbrev descending : List Entry
descending =
    entry [] (Asks (record no_keywords { items = Some (Each 1); properties = Some ((codes "a", 2) ∷ []) }))
    ∷ entry [] (Ref 0) ∷ entry [] (Ref 0) ∷ []

descending-edges : edges descending ≡ [] ∷ (0 ∷ []) ∷ (0 ∷ []) ∷ []
descending-edges = refl

descending-ranks : are_ranks (edges descending) (0 ∷ 1 ∷ 1 ∷ []) ≡ true
descending-ranks = refl

descending-guarded : IsGuarded (edges descending)
descending-guarded = IsGuarded-ranks (edges descending) (0 ∷ 1 ∷ 1 ∷ []) refl

-- no ranks: one that doesn't fall, one too few, one that is too great
level : are_ranks (edges descending) (0 ∷ 1 ∷ 0 ∷ []) ≡ false
level = refl

few : are_ranks (edges descending) (0 ∷ 1 ∷ []) ≡ false
few = refl

great : are_ranks (edges descending) (0 ∷ 3 ∷ 1 ∷ []) ≡ false
great = refl

-- ways: of one edge, of two, and none of another length
ways : leads ((1 ∷ 2 ∷ []) ∷ (2 ∷ []) ∷ [] ∷ []) 1 0 2 ≡ true
unfolding leads
ways = refl

longer_ways : leads ((1 ∷ 2 ∷ []) ∷ (2 ∷ []) ∷ [] ∷ []) 2 0 2 ≡ true
unfolding leads
longer_ways = refl

no_way : leads ((1 ∷ 2 ∷ []) ∷ (2 ∷ []) ∷ [] ∷ []) 3 0 2 ≡ false
unfolding leads
no_way = refl

-- what is required of the next entry of a cycle, as a test for a given number of edges back

abbrev none_shorter : List (List ℕ) → ℕ → ℕ → ℕ → Bool
none_shorter g f zero z = true
none_shorter g f (suc n) z = not (leads g n z f) && none_shorter g f n z

abbrev is_next : List (List ℕ) → ℕ → ℕ → ℕ → ℕ → Bool
is_next g f x y s =
    is_among y (targets g x) && leads g s y f && every (λ z. none_shorter g f s z) (targets g x)
    && every (λ z. not (leads g s z f) || nat_le y z) (targets g x)

shorter : (g : List (List ℕ)) (f s z n : ℕ) → none_shorter g f s z ≡ true → leads g n z f ≡ true → s ≤ n
shorter g f zero z n h k = omega arith
shorter g f (suc s) z n h k =
    let parts = and_parts (not (leads g s z f)) (none_shorter g f s z) h in
    let less = shorter g f s z n parts.1 k in
    elim (cases_order s n) [
      | inl e ↦
          absurd (true≢false (sym (subst (λ m. leads g m z f ≡ true) (sym e) k) ∙ not-true (leads g s z f) parts.0))
      | inr o ↦ elim o [ inl l ↦ l | inr l ↦ absurd (omega arith) ]
    ]

next : (g : List (List ℕ)) (f x y s : ℕ) → is_next g f x y s ≡ true → IsNext g f x y
next g f x y s h =
    let all = and_parts (is_among y (targets g x) && leads g s y f && every (λ z. none_shorter g f s z) (targets g x))
    (every (λ z. not (leads g s z f) || nat_le y z) (targets g x)) h in
    let few = and_parts (is_among y (targets g x) && leads g s y f)
    (every (λ z. none_shorter g f s z) (targets g x)) all.0 in
    let one = and_parts (is_among y (targets g x)) (leads g s y f) few.0 in
    record {
      target = one.0;
      steps = s;
      back = one.1;
      fewest = λ z n j k. shorter g f s z n (every-at (λ w. none_shorter g f s w) (targets g x) z few.1 j) k;
      least = λ z j k.
          elim (or_cases (not (leads g s z f)) (nat_le y z)
          (every-at (λ w. not (leads g s w f) || nat_le y w) (targets g x) z all.1 j)) [
            | inl e ↦ absurd (true≢false (sym k ∙ not-true (leads g s z f) e))
            | inr l ↦ leb-true y z l
          ];
    }

-- the least entry of all lies on a cycle
from_root : (g : List (List ℕ)) (n : ℕ) → leads g (suc n) 0 0 ≡ true → IsLeastOnCycle g 0
from_root g n h = record { on_cycle = (n, h); least = λ y c. omega arith }

-- {"allOf":[{"$ref":"#"}]}: both entries
abbrev itself : List (List ℕ)
itself = edges (entry [] (Asks (record no_keywords { all_of = Some (1 ∷ []) })) ∷ entry [] (Ref 0) ∷ [])

itself-told : IsLeastCycle itself (0 ∷ 1 ∷ [])
unfolding leads
itself-told = (from_root itself 1 refl, (next itself 0 0 1 1 refl, (λ e. omega (arith, e)), next itself 0 1 0 0 refl))

-- the first entry doesn't come again at the end
itself-once : IsLeastCycle itself (0 ∷ 1 ∷ 0 ∷ []) → ⊥
itself-once h = let e = IsLeastCycle-one itself (0 ∷ 1 ∷ []) (0 ∷ 1 ∷ 0 ∷ []) itself-told h in cc

-- nor does the cycle begin elsewhere
itself-elsewhere : IsLeastCycle itself (1 ∷ 0 ∷ []) → ⊥
itself-elsewhere h = let e = IsLeastCycle-one itself (0 ∷ 1 ∷ []) (1 ∷ 0 ∷ []) itself-told h in cc

-- an entry that leads to itself, and to others too: no edge is needed back from it
abbrev at_once : List (List ℕ)
at_once = (1 ∷ 0 ∷ []) ∷ (0 ∷ []) ∷ []

at_once-told : IsLeastCycle at_once (0 ∷ [])
unfolding leads
at_once-told = (from_root at_once 0 refl, next at_once 0 0 0 0 refl)

-- of two ways back that are as short, the one through the lesser number, in whatever order they come
abbrev two_ways : List (List ℕ)
two_ways = (1 ∷ []) ∷ (3 ∷ 2 ∷ []) ∷ (0 ∷ []) ∷ (0 ∷ []) ∷ []

two_ways-told : IsLeastCycle two_ways (0 ∷ 1 ∷ 2 ∷ [])
unfolding leads
two_ways-told = (
  from_root two_ways 2 refl,
  (
    next two_ways 0 0 1 2 refl,
    (λ e. omega (arith, e)),
    (next two_ways 0 1 2 1 refl, (λ e. omega (arith, e)), next two_ways 0 2 0 0 refl),
  ),
)

greater_way : IsLeastCycle two_ways (0 ∷ 1 ∷ 3 ∷ []) → ⊥
greater_way h = let e = IsLeastCycle-one two_ways (0 ∷ 1 ∷ 2 ∷ []) (0 ∷ 1 ∷ 3 ∷ []) two_ways-told h in cc

-- a shorter way back goes before a lesser number
abbrev short_way : List (List ℕ)
short_way = (1 ∷ 3 ∷ []) ∷ (2 ∷ []) ∷ (0 ∷ []) ∷ (0 ∷ []) ∷ []

short_way-told : IsLeastCycle short_way (0 ∷ 3 ∷ [])
unfolding leads
short_way-told =
    (from_root short_way 1 refl, (next short_way 0 0 3 1 refl, (λ e. omega (arith, e)), next short_way 0 3 0 0 refl))

-- {"anyOf":[{"$ref":"#/anyOf/0"}]}: the root leads into a cycle, and doesn't lie on it
abbrev leading_in : List (List ℕ)
leading_in = edges (entry [] (Asks (record no_keywords { any_of = Some (1 ∷ []) })) ∷ entry [] (Ref 1) ∷ [])

after_root : (x y : ℕ) → 0 < x → is_among y (targets leading_in x) ≡ true → 0 < y
after_root zero y h k = absurd (omega arith)
after_root (suc zero) y h k =
    elim (or_cases (nat_eq 1 y) false k) [
      | inl e ↦ omega (arith, eqb-true 1 y e)
      | inr none ↦ absurd (true≢false (sym none))
    ]
after_root (suc (suc x)) y h k = absurd (true≢false (sym k))

root_off : IsOnCycle leading_in 0 → ⊥
root_off =
    off_cycle leading_in (λ x. 0 < x) after_root 0
    (λ y k. after_root 1 y (omega arith) k) (λ h. omega (arith, h))

leading_in-told : IsLeastCycle leading_in (1 ∷ [])
unfolding leads
leading_in-told =
    (record { on_cycle = (0, refl); least = later }, next leading_in 1 1 1 0 refl)
  where
    later : (y : ℕ) → IsOnCycle leading_in y → 1 ≤ y
    later zero c = absurd (root_off c)
    later (suc y) c = omega arith

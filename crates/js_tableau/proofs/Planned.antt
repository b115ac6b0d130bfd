-- The leaves of what was found, and the others by rank, are a plan.
use Rattle.std.proofs.Common.{◌≡◌, ℕ, suc, ◌≤◌, ◌<◌, List, [], ◌∷◌, ◌++◌, filter, length, get_or, Bool, true, not, nat_eq, nat_le, eqb-true, refl, ap, sym, ◌∙◌, subst, arith}
use Rattle.std.specs.List.{IsDistinct}
use Rattle.std.specs.List.Sorted.{IsPermutation, IsNonDecreasingBy}
use Rattle.std.proofs.lemmas.Bool.{and_parts, and_from, le-leb}
use Rattle.std.proofs.lemmas.List.Sorted.{IsPermutation-map, IsPermutation-trans, IsPermutation-append_right, IsPermutation-filter_both}
use Rattle.std.proofs.lemmas.Map.Keys.{IsDistinct-IsPermutation}
use Rattle.documents.specs.Tests.{every}
use Rattle.positions.specs.Position.{Position, position_at, is_table}
use Rattle.name_truths.specs.NameTruth.{atoms}
use Rattle.name_laws.specs.Plans.{IsPlan, is_leaf, rises, atoms_of, SameMentions}
use Rattle.name_laws.specs.Searches.{AreReached}
use Rattle.name_laws.proofs.Tests.{every-permuted}
use Rattle.name_laws.proofs.Ordering.{plan-made, leaves-atoms}
use Rattle.list_laws.proofs.Numbers.{nat_eq_comm}
use Rattle.js_tableau.specs.NamePlans.{places_of, have_ranks}
use Rattle.js_tableau.specs.declared.name_plan.Ranked.{Ranked}

sorted-rises : (ranks : List ℕ) (rs : List Ranked) → have_ranks ranks rs ≡ true
    → IsNonDecreasingBy (λ (r : Ranked). r.rank) rs → rises ranks (places_of rs) ≡ true
sorted-rises ranks [] h n = refl
sorted-rises ranks (r ∷ rs) h n =
    let (one, more) = and_parts (nat_eq r.rank (get_or ranks r.pos.0 0)) (have_ranks ranks rs) h in
    and_from _ _
    (each rs more (λ j l. n 0 (suc j) r (omega arith) (omega (arith, l))) (eqb-true _ _ one))
    (sorted-rises ranks rs more (λ i j d a b. n (suc i) (suc j) d (omega (arith, a)) (omega (arith, b)))) where
      each : (qs : List Ranked) → have_ranks ranks qs ≡ true
          → ((j : ℕ) → j < length qs → r.rank ≤ (get_or qs j r).rank)
          → r.rank ≡ get_or ranks r.pos.0 0
          → every (λ q. nat_le (get_or ranks r.pos.0 0) (get_or ranks q 0)) (places_of qs) ≡ true
      each [] h f e = refl
      each (q ∷ qs) h f e =
          let (one, more) = and_parts (nat_eq q.rank (get_or ranks q.pos.0 0)) (have_ranks ranks qs) h in
          and_from _ _ (le-leb _ _ (omega (arith, f 0 (omega arith), e, eqb-true _ _ one)))
          (each qs more (λ j l. f (suc j) (omega (arith, l))) e)

ranks-permuted : (ranks : List ℕ) (rs ss : List Ranked) → IsPermutation rs ss → have_ranks ranks rs ≡ true
    → have_ranks ranks ss ≡ true
ranks-permuted ranks rs ss m h = every-permuted (λ (r : Ranked). nat_eq r.rank (get_or ranks r.pos.0 0)) rs ss m h

pub sorted-rising : (ranks : List ℕ) (rs ss : List Ranked) → IsPermutation rs ss → have_ranks ranks rs ≡ true
    → IsNonDecreasingBy (λ (r : Ranked). r.rank) ss → rises ranks (places_of ss) ≡ true
sorted-rising ranks rs ss m h n = sorted-rises ranks ss (ranks-permuted ranks rs ss m h) n

module _ (T : List Position) (ranks : List ℕ) (e : is_table T ranks ≡ true) where
  -- the leaves of what was found, and the others sorted by rank, are a plan
  pub is-plan : (p : ℕ) (found leaves : List ℕ) (rs ss : List Ranked) → AreReached T p found
      → leaves ≡ filter (λ q. is_leaf (position_at T q)) found
      → places_of rs ≡ filter (λ q. not (is_leaf (position_at T q))) found → IsPermutation rs ss
      → rises ranks (places_of ss) ≡ true
      → IsPlan T (record { root = p; leaves = leaves; inner = places_of ss })
  is-plan p found leaves rs ss r f g m rising =
      subst (λ ls. IsPlan T (record { root = p; leaves = ls; inner = places_of ss })) (sym f)
      (plan-made T ranks e p found (places_of ss) r
      (subst (λ qs. IsPermutation qs (places_of ss)) g (IsPermutation-map (λ (r : Ranked). r.pos.0) rs ss m)) rising)

pub plan-atoms : (T : List Position) (p : ℕ) (found leaves : List ℕ) → AreReached T p found
    → leaves ≡ filter (λ q. is_leaf (position_at T q)) found → SameMentions (atoms_of T leaves) (atoms T p)
plan-atoms T p found leaves r f =
    subst (λ xs. SameMentions xs (atoms T p)) (sym (ap (atoms_of T) f ∙ leaves-atoms T found)) r.atoms

-- a plan has what was found in another order, so no position twice
pub plan-distinct : (T : List Position) (found leaves : List ℕ) (rs ss : List Ranked) → IsDistinct nat_eq found
    → leaves ≡ filter (λ q. is_leaf (position_at T q)) found
    → places_of rs ≡ filter (λ q. not (is_leaf (position_at T q))) found → IsPermutation rs ss
    → IsDistinct nat_eq (leaves ++ places_of ss)
plan-distinct T found leaves rs ss d f g m =
    let leaf : ℕ → Bool = (λ q. is_leaf (position_at T q)) in
    let other : ℕ → Bool = (λ q. not (is_leaf (position_at T q))) in
    let sorted : IsPermutation (filter other found) (places_of ss) =
    subst (λ qs. IsPermutation qs (places_of ss)) g (IsPermutation-map (λ (r : Ranked). r.pos.0) rs ss m) in
    subst (λ ls. IsDistinct nat_eq (ls ++ places_of ss)) (sym f)
    (IsDistinct-IsPermutation nat_eq nat_eq_comm found (filter leaf found ++ places_of ss)
    (IsPermutation-trans _ _ _ (IsPermutation-filter_both leaf other (λ q. refl) found)
    (IsPermutation-append_right (filter leaf found) (filter other found) (places_of ss) sorted)) d)

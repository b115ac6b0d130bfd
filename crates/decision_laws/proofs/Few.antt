-- There are no more goals over n positions than lists that say of each position that it holds, that it doesn't, or
-- nothing.
use Rattle.std.proofs.Common.{◌≡◌, ℕ, zero, suc, ◌+◌, ◌<◌, ◌≤◌, inl, inr, ⊎_elim, true, ◌||◌, nat_lt, List, [], ◌∷◌, ◌++◌, map, length, Option, Some, None, is_some, refl, ap, sym, ◌∙◌, subst, arith, length-append}
use Rattle.std.proofs.lemmas.Bool.{and_parts, or_parts, ltb-true, cases_eq, true≢false}
use Rattle.std.proofs.lemmas.List.{length-map}
use Rattle.std.proofs.lemmas.Option.{slice_get_within, same_Some}
use Rattle.documents.specs.Tests.{every}
use Rattle.positions.specs.Position.{Position}
use Rattle.goals.specs.Signed.{Signed, Plus, Minus, position_of, opposite, has, comes_before, is_rising}
use Rattle.goals.specs.Goal.{is_never}
use Rattle.goal_laws.proofs.Signs.{some-none, comes_before-le, comes_before-lt}
use Rattle.list_laws.specs.In.{IsIn, Distinct}
use Rattle.list_laws.proofs.Lists.{every_at, in_left, in_right, in_map, from_map}
use Rattle.list_laws.proofs.Pigeons.{pigeon}
use Rattle.frame_laws.proofs.Signs.{in_has}
use Rattle.search.specs.Explored.{number_in}
use Rattle.search_laws.proofs.Numbers.{number_at}
use Rattle.expander_laws.specs.Expander.{is_formed, is_goal}
use Rattle.expander_laws.proofs.Formed.{is_formed-true}
use Rattle.decision_laws.proofs.Full.{in_listed}

-- the rising lists without a clash over n positions, from position k on
abbrev pub goals_over : ℕ → ℕ → List (List Signed)
goals_over k zero = [] ∷ []
goals_over k (suc n) = goals_over (suc k) n
    ++ (map (λ g. Plus k ∷ g) (goals_over (suc k) n) ++ map (λ g. Minus k ∷ g) (goals_over (suc k) n))

-- three to the power of n
abbrev pub many : ℕ → ℕ
many zero = 1
many (suc n) = many n + (many n + many n)

pub over_many : (k n : ℕ) → length (goals_over k n) ≡ many n
over_many k zero = refl
over_many k (suc n) =
    let more = goals_over (suc k) n in
    let a = length-append more (map (λ g. Plus k ∷ g) more ++ map (λ g. Minus k ∷ g) more) in
    let b = length-append (map (λ g. Plus k ∷ g) more) (map (λ g. Minus k ∷ g) more) in
    let c = length-map more (λ g. Plus k ∷ g) in
    let d = length-map more (λ g. Minus k ∷ g) in
    omega (arith, a, b, c, d, over_many (suc k) n)

pub many_rise : (m n : ℕ) → m ≤ n → many m ≤ many n
many_rise zero zero l = omega arith
many_rise zero (suc n) l = omega (arith, many_rise zero n (omega arith))
many_rise (suc m) zero l = absurd (omega (arith, l))
many_rise (suc m) (suc n) l = omega (arith, many_rise m n (omega (arith, l)))

pub over_in : (n k : ℕ) (g : List Signed) → is_rising g ≡ true
    → ((x : Signed) → IsIn x g → IsIn (opposite x) g → ⊥)
    → ((x : Signed) → IsIn x g → (k ≤ position_of x) × (position_of x < k + n)) → IsIn g (goals_over k n)
over_in zero k [] r c h = inl refl
over_in zero k (x ∷ g) r c h = let (a, b) = h x (inl refl) in absurd (omega (arith, a, b))
over_in (suc n) k [] r c h = in_left [] (goals_over (suc k) n) _ (over_in n (suc k) [] r c (λ x i. absurd i))
over_in (suc n) k (x ∷ g) r c h =
    let (first, rest) = and_parts (every (comes_before x) g) (is_rising g) r in
    elim (cases_eq (position_of x) k) [
      | inl s ↦
          let j = over_in n (suc k) g rest (λ y i u. c y (inr i) (inr u)) (λ y i.
          let l = comes_before-lt x y (every_at (comes_before x) y g first i)
          (λ e. c x (inl refl) (inr (subst (λ z. IsIn z g) (sym e) i))) in
          let (u, v) = h y (inr i) in (omega (arith, l, s), omega (arith, v))) in
          in_right (x ∷ g) (goals_over (suc k) n) _ (headed x s g j)
      | inr ne ↦
          let (u, v) = h x (inl refl) in
          in_left (x ∷ g) (goals_over (suc k) n) _ (over_in n (suc k) (x ∷ g) r c (λ y i.
          let (a, b) = h y i in
          let low : position_of x ≤ position_of y = ⊎_elim
          (λ q. let s : position_of y ≡ position_of x = ap position_of q in omega (arith, s))
          (λ j. comes_before-le x y (every_at (comes_before x) y g first j)) i in
          (omega (arith, u, ne, low), omega (arith, b))))
    ]
  where
    headed : (x : Signed) → position_of x ≡ k → (g : List Signed) → IsIn g (goals_over (suc k) n)
        → IsIn (x ∷ g)
        (map (λ g. Plus k ∷ g) (goals_over (suc k) n) ++ map (λ g. Minus k ∷ g) (goals_over (suc k) n))
    headed (Plus p) s g j = in_left (Plus p ∷ g) (map (λ g. Plus k ∷ g) (goals_over (suc k) n)) _
        (subst (λ z. IsIn (Plus z ∷ g) (map (λ g. Plus k ∷ g) (goals_over (suc k) n))) (sym s)
        (in_map (λ g. Plus k ∷ g) g (goals_over (suc k) n) j))
    headed (Minus p) s g j = in_right (Minus p ∷ g) (map (λ g. Plus k ∷ g) (goals_over (suc k) n)) _
        (subst (λ z. IsIn (Minus z ∷ g) (map (λ g. Minus k ∷ g) (goals_over (suc k) n))) (sym s)
        (in_map (λ g. Minus k ∷ g) g (goals_over (suc k) n) j))

-- each goal of a table is one of them
pub goal_over : (T : List Position) (g : List Signed) → is_goal T g ≡ true → IsIn g (goals_over 0 (length T))
goal_over T g e =
    let (formed, inside) = and_parts (is_formed T g) (every (λ x. nat_lt (position_of x) (length T)) g) e in
    let f = is_formed-true T g formed in
    over_in (length T) 0 g f.rising
    (λ x i j. true≢false (sym (in_has (opposite x) g j) ∙ (or_parts (is_never T x) (has (opposite x) g)
    (some-none (λ y. is_never T y || has (opposite y) g) g x f.no_clash (in_has x g i))).1))
    (λ x i. let l = ltb-true (position_of x) (length T)
    (every_at (λ x. nat_lt (position_of x) (length T)) x g inside i) in (omega arith, omega (arith, l)))

-- different lists that are all among others are no more than these

abbrev or_zero : Option ℕ → ℕ
or_zero None = 0
or_zero (Some n) = n

module _ (L : List (List Signed)) where
  abbrev place : List Signed → ℕ
  place g = or_zero (number_in L g)

  placed : (g : List Signed) → IsIn g L → number_in L g ≡ Some (or_zero (number_in L g))
  placed g i = go (number_in L g) (in_listed L g i) where
    go : (o : Option ℕ) → is_some o ≡ true → o ≡ Some (or_zero o)
    go None e = cc
    go (Some n) e = refl

  place_once : (g h : List Signed) → IsIn g L → IsIn h L → place g ≡ place h → g ≡ h
  place_once g h i j e =
      same_Some g h (sym (number_at L g (place g) (placed g i))
      ∙ number_at L h (place g) (placed h j ∙ ap Some (sym e)))

  places_differ : (gs : List (List Signed)) → Distinct gs → ((g : List Signed) → IsIn g gs → IsIn g L)
      → Distinct (map (λ g. or_zero (number_in L g)) gs)
  places_differ [] d h = tt
  places_differ (g ∷ gs) d h = (
    λ i. let (x, j, e) = from_map (λ g. or_zero (number_in L g)) (place g) gs i in
        d.0 (subst (λ z. IsIn z gs) (sym (place_once g x (h g (inl refl)) (h x (inr j)) e)) j),
    places_differ gs d.1 (λ x i. h x (inr i)),
  )

  pub no_more : (gs : List (List Signed)) → Distinct gs → ((g : List Signed) → IsIn g gs → IsIn g L)
      → length gs ≤ length L
  no_more gs d h =
      let l = pigeon 0 (length L) (map (λ g. or_zero (number_in L g)) gs) (places_differ gs d h) (λ y i.
      let (x, j, e) = from_map (λ g. or_zero (number_in L g)) y gs i in
      let m = slice_get_within L (place x) x (number_at L x (place x) (placed x (h x j))) in
      (omega arith, omega (arith, m, e))) in
      let k = length-map gs (λ g. or_zero (number_in L g)) in omega (arith, l, k)

-- different goals of a table
pub few_goals : (T : List Position) (gs : List (List Signed)) → Distinct gs → every (is_goal T) gs ≡ true
    → length gs ≤ many (length T)
few_goals T gs d e =
    let l = no_more (goals_over 0 (length T)) gs d (λ g i. goal_over T g (every_at (is_goal T) g gs e i)) in
    omega (arith, l, over_many 0 (length T))

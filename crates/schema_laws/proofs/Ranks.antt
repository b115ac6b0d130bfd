-- Ranks fall along each edge and each way, and where there are ranks no entry lies on a cycle.
use Rattle.std.proofs.Common.{◌≡◌, ℕ, zero, suc, ◌+◌, ◌<◌, ◌≤◌, List, [], ◌∷◌, length, get_or, inl, inr, Bool, true, ◌&&◌, nat_eq, nat_lt, nat_le, refl, sym, ap, subst, arith, true≢false}
use Rattle.std.specs.List.{AllByRecursion}
use Rattle.std.proofs.lemmas.Bool.{and_parts, or_cases, eqb-true, ltb-true}
use Rattle.documents.specs.Tests.{every}
use Rattle.schemas.specs.Entry.{Entry}
use Rattle.schemas.specs.Schema.{in_place, of_parts, names_below, form_in_range, total_size, is_table}
use Rattle.schemas.specs.Weight.{most_weight}
use Rattle.schemas.specs.Guarded.{edges, targets, is_among, leads, IsGuarded, fall, are_ranks}
use Rattle.schema_laws.proofs.Ways.{leads-first, leads-same, IsGuarded-from}

pub every-at : (p : ℕ → Bool) (ys : List ℕ) (z : ℕ) → every p ys ≡ true → is_among z ys ≡ true → p z ≡ true
every-at p [] z h k = absurd (true≢false (sym k))
every-at p (y ∷ ys) z h k =
    let parts = and_parts (p y) (every p ys) h in
    elim (or_cases (nat_eq y z) _ k) [
      | inl e ↦ subst (λ w. p w ≡ true) (eqb-true y z e) parts.0
      | inr l ↦ every-at p ys z parts.1 l
    ]

fall-at : (ranks rs : List ℕ) (g : List (List ℕ)) → fall ranks rs g ≡ true
    → (x : ℕ) → every (λ y. nat_lt (get_or ranks y 0) (get_or rs x 0)) (targets g x) ≡ true
fall-at ranks [] [] h x = refl
fall-at ranks [] (ts ∷ g) h x = absurd (true≢false (sym h))
fall-at ranks (r ∷ rs) [] h x = absurd (true≢false (sym h))
fall-at ranks (r ∷ rs) (ts ∷ g) h zero = (and_parts _ (fall ranks rs g) h).0
fall-at ranks (r ∷ rs) (ts ∷ g) h (suc x) =
    fall-at ranks rs g (and_parts (every (λ y. nat_lt (get_or ranks y 0) r) ts) (fall ranks rs g) h).1 x

fall-length : (ranks rs : List ℕ) (g : List (List ℕ)) → fall ranks rs g ≡ true → length rs ≡ length g
fall-length ranks [] [] h = refl
fall-length ranks [] (ts ∷ g) h = absurd (true≢false (sym h))
fall-length ranks (r ∷ rs) [] h = absurd (true≢false (sym h))
fall-length ranks (r ∷ rs) (ts ∷ g) h =
    ap suc (fall-length ranks rs g (and_parts (every (λ y. nat_lt (get_or ranks y 0) r) ts) (fall ranks rs g) h).1)

all-below : (n : ℕ) (f : ℕ → ℕ) (ys : List ℕ) → every (λ y. nat_lt (f y) n) ys ≡ true
    → AllByRecursion (λ y. f y < n) ys
all-below n f [] h = tt
all-below n f (y ∷ ys) h =
    let parts = and_parts (nat_lt (f y) n) (every (λ z. nat_lt (f z) n) ys) h in
    (ltb-true (f y) n parts.0, all-below n f ys parts.1)

rank-below : (n : ℕ) (ranks : List ℕ) → 0 < n → every (λ r. nat_lt r n) ranks ≡ true
    → (x : ℕ) → get_or ranks x 0 < n
rank-below n [] some h x = some
rank-below n (r ∷ rs) some h zero = ltb-true r n (and_parts (nat_lt r n) (every (λ q. nat_lt q n) rs) h).0
rank-below n (r ∷ rs) some h (suc x) =
    rank-below n rs some (and_parts (nat_lt r n) (every (λ q. nat_lt q n) rs) h).1 x

module _ (g : List (List ℕ)) (ranks : List ℕ) (h : are_ranks g ranks ≡ true) where
  falling : fall ranks ranks g ≡ true
  falling = (and_parts (every (λ r. nat_lt r (length g)) ranks) _ h).1

  pub are_ranks-length : length ranks ≡ length g
  are_ranks-length = fall-length ranks ranks g falling

  pub are_ranks-bounded : 0 < length g → (x : ℕ) → get_or ranks x 0 < length g
  are_ranks-bounded some x = rank-below (length g) ranks some (and_parts _ (fall ranks ranks g) h).0 x

  -- ranks fall along each edge
  pub are_ranks-falls : (x : ℕ) → AllByRecursion (λ y. get_or ranks y 0 < get_or ranks x 0) (targets g x)
  are_ranks-falls x =
      all-below (get_or ranks x 0) (λ y. get_or ranks y 0) (targets g x) (fall-at ranks ranks g falling x)

  pub are_ranks-edge : (x y : ℕ) → is_among y (targets g x) ≡ true → get_or ranks y 0 < get_or ranks x 0
  are_ranks-edge x y k =
      ltb-true _ _ (every-at (λ z. nat_lt (get_or ranks z 0) (get_or ranks x 0)) (targets g x) y
      (fall-at ranks ranks g falling x) k)

  pub are_ranks-way : (n x y : ℕ) → leads g n x y ≡ true → get_or ranks y 0 + n ≤ get_or ranks x 0
  are_ranks-way zero x y k = let same = ap (λ z. get_or ranks z 0) (leads-same g x y k) in omega arith
  are_ranks-way (suc n) x y k =
      let first = leads-first g n x y k in
      let once = are_ranks-edge x first.0 first.1 in
      let later = are_ranks-way n first.0 y first.2 in
      omega arith

  -- where there are ranks, no way leads from an entry back to it
  pub IsGuarded-ranks : IsGuarded g
  IsGuarded-ranks =
      IsGuarded-from g (λ x c. let falls = are_ranks-way (suc c.0) x x c.1 in omega arith)

edge-below : (n : ℕ) (es : List Entry) → every (λ e. names_below n e.form) es ≡ true
    → (x y : ℕ) → is_among y (targets (edges es) x) ≡ true → y < n
edge-below n [] h x y k = absurd (true≢false (sym k))
edge-below n (e ∷ es) h zero y k =
    let here = (and_parts (names_below n e.form) (every (λ f. names_below n f.form) es) h).0 in
    let named = and_parts (every (λ z. nat_lt z n) (in_place e.form)) (every (λ z. nat_lt z n) (of_parts e.form))
    here in
    ltb-true y n (every-at (λ z. nat_lt z n) (in_place e.form) y named.0 k)
edge-below n (e ∷ es) h (suc x) y k =
    edge-below n es (and_parts (names_below n e.form) (every (λ f. names_below n f.form) es) h).1 x y k

-- the edges of a table lead to its entries
pub edges-below : (es : List Entry) → is_table es ≡ true
    → (x y : ℕ) → is_among y (targets (edges es) x) ≡ true → y < length es
edges-below es h x y k =
    let sized = and_parts ((nat_lt 0 (length es) && every (λ e. names_below (length es) e.form) es)
    && every (λ e. form_in_range e.form) es) (nat_le (total_size es) most_weight) h in
    let ranged = and_parts (nat_lt 0 (length es) && every (λ e. names_below (length es) e.form) es)
    (every (λ e. form_in_range e.form) es) sized.0 in
    let named = and_parts (nat_lt 0 (length es)) (every (λ e. names_below (length es) e.form) es) ranged.0 in
    edge-below (length es) es named.1 x y k

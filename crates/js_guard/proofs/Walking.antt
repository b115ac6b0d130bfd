-- The walk back along the shortest ways is the cycle that is reported.
use Rattle.std.proofs.Common.{◌≡◌, ℕ, zero, suc, ◌<◌, ◌≤◌, ◌≢◌, List, [], ◌∷◌, ◌++◌, length, get_or, inl, inr, true, Option, Some, None, refl, sym, ap, ◌∙◌, subst, arith, true≢false}
use Rattle.std.proofs.lemmas.Bool.{cases_lt}
use Rattle.std.proofs.lemmas.List.{append_assoc, append-nil, get_or_past}
use Rattle.schemas.specs.Guarded.{targets, is_among, leads, IsOnCycle, IsNext, GoesBack, IsLeastOnCycle, IsLeastCycle}
use Rattle.schema_laws.proofs.Ways.{leads-here, leads-same, leads-first, leads-edge, leads-join}
use Rattle.js_guard.specs.Rows.{AreClosed}
use Rattle.js_guard.specs.Linked.{AreReversed}
use Rattle.js_guard.specs.Distances.{get_distance, AreDistances}
use Rattle.js_guard.specs.Nearest.{IsNearest}
use Rattle.js_guard.proofs.Stepping.{target-inside}
use Rattle.js_guard.proofs.Reached.{known-inside}

-- ways, the other way round
leads-back : (g r : List (List ℕ)) → ((x y : ℕ) → is_among y (targets g x) ≡ true → is_among x (targets r y) ≡ true)
    → (n x y : ℕ) → leads g n x y ≡ true → leads r n y x ≡ true
leads-back g r back zero x y h =
    subst (λ z. leads r 0 z x ≡ true) (leads-same g x y h) (leads-here r x)
leads-back g r back (suc n) x y h =
    let first = leads-first g n x y h in
    let rest = leads-back g r back n first.0 y first.2 in
    let edge = leads-edge r 0 first.0 x x (back x first.0 first.1) (leads-here r x) in
    leads-join r n 1 (suc n) y first.0 x (omega arith) rest edge

-- what may follow from y on, where y is the next entry
abbrev pub Ends : List (List ℕ) → ℕ → ℕ → List ℕ → Type 0
Ends g f y [] = y ≡ f
Ends g f y (z ∷ zs) = (z ≡ y) × (y ≢ f) × GoesBack g f y zs

ends-back : (g : List (List ℕ)) (f x y : ℕ) (ys : List ℕ) → IsNext g f x y → Ends g f y ys → GoesBack g f x ys
ends-back g f x y [] next e = subst (IsNext g f x) e next
ends-back g f x y (z ∷ zs) next (same, other, rest) =
    subst (λ w. IsNext g f x w × (w ≢ f) × GoesBack g f w zs) (sym same) (next, other, rest)

abbrev pub steps_of : Option ℕ → ℕ
steps_of None = 0
steps_of (Some d) = d

-- an entry without edges lies on no cycle
pub source-inside : (g : List (List ℕ)) (x y : ℕ) → is_among y (targets g x) ≡ true → x < length g
source-inside g x y h =
    elim (cases_lt x (length g)) [
      | inl l ↦ l
      | inr l ↦ absurd (true≢false (sym (subst (λ r. is_among y r ≡ true) (get_or_past g x [] l) h)))
    ]

pub cycle-inside : (g : List (List ℕ)) (x : ℕ) → IsOnCycle g x → x < length g
cycle-inside g x (n, h) = let first = leads-first g n x x h in source-inside g x first.0 first.1

-- where a row and distances are read
pub nearest-read : (D E : List (Option ℕ)) (row ts : List ℕ) (y : ℕ) → E ≡ D → row ≡ ts → IsNearest E row y
    → IsNearest D ts y
nearest-read D E row ts y e f n = subst (λ d. IsNearest d ts y) e (subst (λ r. IsNearest E r y) f n)

pub some-read : (D E : List (Option ℕ)) (row ts : List ℕ) → E ≡ D → row ≡ ts
    → ((z d : ℕ) × (is_among z ts ≡ true) × (get_distance D z ≡ Some d))
    → (z d : ℕ) × (is_among z row ≡ true) × (get_distance E z ≡ Some d)
some-read D E row ts e f (z, d, h, k) =
    (z, d, subst (λ r. is_among z r ≡ true) (sym f) h, subst (λ m. get_distance m z ≡ Some d) (sym e) k)

pub row-within : (g : List (List ℕ)) (D E : List (Option ℕ)) (row : List ℕ) (x : ℕ) → AreClosed g → E ≡ D
    → length D ≡ length g → row ≡ targets g x → (i : ℕ) → i < length row → get_or row i 0 < length E
row-within g D E row x closed e size f i h =
    let edge : i < length (targets g x) = omega (arith, ap length f) in
    omega (arith, target-inside g x i closed edge, ap (λ r. get_or r i 0) f, ap length e)

-- the walk so far: whatever may follow makes it the cycle
pub record IsWalk (g : List (List ℕ)) (f : ℕ) (D : List (Option ℕ)) (cycle : List ℕ) (next : ℕ) : Type 0 where
  pub known : (d : ℕ) × (get_distance D next ≡ Some d)
  pub to_end : (ys : List ℕ) → Ends g f next ys → IsLeastCycle g (cycle ++ ys)

module _ (g r : List (List ℕ)) (f : ℕ) (D : List (Option ℕ)) (reverse : AreReversed g r)
    (distances : AreDistances r f D)
  where
    way : (x d : ℕ) → get_distance D x ≡ Some d → leads g d x f ≡ true
    way x d h = leads-back r g (λ y x h. reverse.forth x y h) d f x (distances.way x d h)

    fewest : (x n : ℕ) → leads g n x f ≡ true → (d : ℕ) × (get_distance D x ≡ Some d) × (d ≤ n)
    fewest x n h = distances.fewest x n (leads-back g r reverse.back n x f h)

    pub size-distances : length D ≡ length g
    size-distances = distances.known ∙ reverse.same_length

    pub next-inside : (x d : ℕ) → get_distance D x ≡ Some d → x < length g
    next-inside x d h = omega (arith, known-inside D x d h, size-distances)

    pub nearest-next : (x y : ℕ) → IsNearest D (targets g x) y → IsNext g f x y
    nearest-next x y n = record {
      target = n.among;
      steps = n.steps;
      back = way y n.steps n.known;
      fewest = λ z m h k.
          (let known = fewest z m k in let low = known.2 in let near = n.nearest z known.0 h known.1 in omega arith);
      least = λ z h k.
          (let known = fewest z n.steps k in
          let low = known.2 in
          let near = n.nearest z known.0 h known.1 in
          let same : known.0 ≡ n.steps = omega arith in
          n.least z h (subst (λ d. get_distance D z ≡ Some d) same known.1));
    }

    -- there is a next entry from each that leads back, and from one on a cycle
    pub some-next : (x d : ℕ) → x ≢ f → get_distance D x ≡ Some d
        → (z e : ℕ) × (is_among z (targets g x) ≡ true) × (get_distance D z ≡ Some e) × (e < d)
    some-next x zero other h = absurd (other (leads-same g x f (way x 0 h)))
    some-next x (suc d) other h =
        let first = leads-first g d x f (way x (suc d) h) in
        let known = fewest first.0 d first.2 in
        (first.0, known.0, first.1, known.1, (let low = known.2 in omega arith))

    pub some-first : IsOnCycle g f → (z e : ℕ) × (is_among z (targets g f) ≡ true) × (get_distance D z ≡ Some e)
    some-first (n, h) =
        let first = leads-first g n f f h in
        let known = fewest first.0 n first.2 in
        (first.0, known.0, first.1, known.1)

    -- the next entry is nearer
    pub nearer-next : (x d y : ℕ) → x ≢ f → get_distance D x ≡ Some d → IsNearest D (targets g x) y
        → steps_of (get_distance D y) < steps_of (get_distance D x)
    nearer-next x d y other h n =
        let (z, e, among, known, less) = some-next x d other h in
        let near = n.nearest z e among known in
        omega (arith, ap steps_of n.known, ap steps_of h)

    pub walk-first : (next : ℕ) → IsLeastOnCycle g f → IsNearest D (targets g f) next → IsWalk g f D (f ∷ []) next
    walk-first next first n = record {
      known = (n.steps, n.known);
      to_end = λ ys e. (first, ends-back g f f next ys (nearest-next f next n) e);
    }

    pub walk-more : (cycle : List ℕ) (x y : ℕ) → x ≢ f → IsWalk g f D cycle x → IsNearest D (targets g x) y
        → IsWalk g f D (cycle ++ x ∷ []) y
    walk-more cycle x y other w n = record {
      known = (n.steps, n.known);
      to_end = λ ys e.
          subst (IsLeastCycle g) (sym (append_assoc cycle (x ∷ []) ys))
          (w.to_end (x ∷ ys) (refl, other, ends-back g f x y ys (nearest-next x y n) e));
    }

    pub walk-end : (cycle : List ℕ) (x : ℕ) → x ≡ f → IsWalk g f D cycle x → IsLeastCycle g cycle
    walk-end cycle x same w = subst (IsLeastCycle g) (append-nil cycle) (w.to_end [] same)

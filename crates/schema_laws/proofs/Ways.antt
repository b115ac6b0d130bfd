-- Ways along edges, and that exactly one cycle is reported.
use Rattle.std.proofs.Common.{◌≡◌, ℕ, zero, suc, ◌+◌, ◌<◌, ◌≤◌, List, [], ◌∷◌, length, get_or, inl, inr, Bool, true, nat_eq, refl, sym, ap, ◌∙◌, subst, arith, true≢false}
use Rattle.std.proofs.lemmas.Bool.{or_cases, or_left, or_right, eqb-true, eq-eqb, false_from_ne_true}
use Rattle.documents.specs.Tests.{some}
use Rattle.schemas.specs.Guarded.{targets, is_among, leads, IsOnCycle, IsGuarded, IsNext, GoesBack, IsLeastOnCycle, IsLeastCycle}

-- an element of a list, by its place
pub is_among-at : (ys : List ℕ) (i : ℕ) → i < length ys → is_among (get_or ys i 0) ys ≡ true
is_among-at [] i h = absurd (omega arith)
is_among-at (y ∷ ys) zero h = or_left (nat_eq y y) _ (eq-eqb y y refl)
is_among-at (y ∷ ys) (suc i) h =
    or_right (nat_eq y (get_or ys i 0)) _ (is_among-at ys i (omega arith))

pub place_among : (y : ℕ) (ys : List ℕ) → is_among y ys ≡ true
    → (i : ℕ) × (i < length ys) × (get_or ys i 0 ≡ y)
place_among y [] h = absurd (true≢false (sym h))
place_among y (z ∷ ys) h =
    elim (or_cases (nat_eq z y) _ h) [
      | inl e ↦ (0, omega arith, eqb-true z y e)
      | inr k ↦ let later = place_among y ys k in (suc later.0, (let l = later.1 in omega arith), later.2)
    ]

-- an element that passes a test
pub some-find : (p : ℕ → Bool) (ys : List ℕ) → some p ys ≡ true
    → (z : ℕ) × (is_among z ys ≡ true) × (p z ≡ true)
some-find p [] h = absurd (true≢false (sym h))
some-find p (y ∷ ys) h =
    elim (or_cases (p y) _ h) [
      | inl e ↦ (y, or_left (nat_eq y y) _ (eq-eqb y y refl), e)
      | inr k ↦ let later = some-find p ys k in (later.0, or_right (nat_eq y later.0) _ later.1, later.2)
    ]

pub some-at : (p : ℕ → Bool) (ys : List ℕ) (z : ℕ) → is_among z ys ≡ true → p z ≡ true → some p ys ≡ true
some-at p [] z h k = absurd (true≢false (sym h))
some-at p (y ∷ ys) z h k =
    elim (or_cases (nat_eq y z) _ h) [
      | inl e ↦ or_left (p y) _ (ap p (eqb-true y z e) ∙ k)
      | inr l ↦ or_right (p y) _ (some-at p ys z l k)
    ]

module _ (g : List (List ℕ)) where
  pub leads-here : (x : ℕ) → leads g 0 x x ≡ true
  unfolding leads
  leads-here x = eq-eqb x x refl

  pub leads-same : (x y : ℕ) → leads g 0 x y ≡ true → x ≡ y
  unfolding leads
  leads-same x y h = eqb-true x y h

  -- a way begins with an edge
  pub leads-edge : (n x z y : ℕ) → is_among z (targets g x) ≡ true → leads g n z y ≡ true
      → leads g (suc n) x y ≡ true
  unfolding leads
  leads-edge n x z y h k = some-at (λ w. leads g n w y) (targets g x) z h k

  pub leads-first : (n x y : ℕ) → leads g (suc n) x y ≡ true
      → (z : ℕ) × (is_among z (targets g x) ≡ true) × (leads g n z y ≡ true)
  unfolding leads
  leads-first n x y h = some-find (λ w. leads g n w y) (targets g x) h

  pub leads-join : (m n k x y z : ℕ) → k ≡ m + n → leads g m x y ≡ true → leads g n y z ≡ true
      → leads g k x z ≡ true
  leads-join zero n k x y z e h i =
      let same : k ≡ n = omega arith in
      subst (λ l. leads g l x z ≡ true) (sym same) (subst (λ w. leads g n w z ≡ true) (sym (leads-same x y h)) i)
  leads-join (suc m) n k x y z e h i =
      let first = leads-first m x y h in
      let same : k ≡ suc (m + n) = omega arith in
      subst (λ l. leads g l x z ≡ true) (sym same)
      (leads-edge (m + n) x first.0 z first.1 (leads-join m n (m + n) first.0 y z refl first.2 i))

  -- a way ends with an edge
  pub leads-last : (n x y : ℕ) → leads g (suc n) x y ≡ true
      → (z : ℕ) × (leads g n x z ≡ true) × (is_among y (targets g z) ≡ true)
  leads-last zero x y h =
      let first = leads-first zero x y h in
      (x, leads-here x, subst (λ w. is_among w (targets g x) ≡ true) (leads-same first.0 y first.2) first.1)
  leads-last (suc n) x y h =
      let first = leads-first (suc n) x y h in
      let last = leads-last n first.0 y first.2 in
      (last.0, leads-edge n x first.0 last.0 first.1 last.1, last.2)

  -- what edges keep, ways keep
  pub leads-keeps : (P : ℕ → Type 0) → ((x y : ℕ) → P x → is_among y (targets g x) ≡ true → P y)
      → (n x y : ℕ) → leads g n x y ≡ true → P x → P y
  leads-keeps P keeps zero x y h p = subst P (leads-same x y h) p
  leads-keeps P keeps (suc n) x y h p =
      let first = leads-first n x y h in
      leads-keeps P keeps n first.0 y first.2 (keeps x first.0 p first.1)

  -- no way leads back from where edges keep something that x hasn't
  pub off_cycle : (P : ℕ → Type 0) → ((x y : ℕ) → P x → is_among y (targets g x) ≡ true → P y)
      → (x : ℕ) → ((y : ℕ) → is_among y (targets g x) ≡ true → P y) → (P x → ⊥) → IsOnCycle g x → ⊥
  off_cycle P keeps x after not_here c =
      let first = leads-first c.0 x x c.1 in
      not_here (leads-keeps P keeps c.0 first.0 x first.2 (after first.0 first.1))

  pub IsGuarded-from : ((x : ℕ) → IsOnCycle g x → ⊥) → IsGuarded g
  IsGuarded-from none x n = false_from_ne_true (leads g (suc n) x x) (λ h. none x (n, h))

  pub IsNext-one : (f x y z : ℕ) → IsNext g f x y → IsNext g f x z → y ≡ z
  IsNext-one f x y z a b =
      let less : a.steps ≤ b.steps = a.fewest z b.steps b.target b.back in
      let more : b.steps ≤ a.steps = b.fewest y a.steps a.target a.back in
      let same : a.steps ≡ b.steps = omega arith in
      let before : y ≤ z = a.least z b.target (subst (λ s. leads g s z f ≡ true) (sym same) b.back) in
      let after : z ≤ y = b.least y a.target (subst (λ s. leads g s y f ≡ true) same a.back) in
      omega arith

  pub GoesBack-one : (f x : ℕ) (xs ys : List ℕ) → GoesBack g f x xs → GoesBack g f x ys → xs ≡ ys
  GoesBack-one f x [] [] h k = refl
  GoesBack-one f x [] (y ∷ ys) h k = absurd (k.1 (IsNext-one f x y f k.0 h))
  GoesBack-one f x (y ∷ xs) [] h k = absurd (h.1 (IsNext-one f x y f h.0 k))
  GoesBack-one f x (y ∷ xs) (z ∷ ys) h k =
      let same = IsNext-one f x y z h.0 k.0 in
      let rest = GoesBack-one f y xs ys h.2 (subst (λ w. GoesBack g f w ys) (sym same) k.2) in
      ap (λ w. w ∷ xs) same ∙ ap (λ l. z ∷ l) rest

  pub IsLeastOnCycle-one : (x y : ℕ) → IsLeastOnCycle g x → IsLeastOnCycle g y → x ≡ y
  IsLeastOnCycle-one x y a b =
      let less : x ≤ y = a.least y b.on_cycle in
      let more : y ≤ x = b.least x a.on_cycle in
      omega arith

  -- no second cycle may be reported
  pub IsLeastCycle-one : (xs ys : List ℕ) → IsLeastCycle g xs → IsLeastCycle g ys → xs ≡ ys
  IsLeastCycle-one [] ys h k = absurd h
  IsLeastCycle-one (x ∷ xs) [] h k = absurd k
  IsLeastCycle-one (x ∷ xs) (y ∷ ys) h k =
      let same = IsLeastOnCycle-one x y h.0 k.0 in
      let rest = GoesBack-one x x xs ys h.1 (subst (λ w. GoesBack g w w ys) (sym same) k.1) in
      ap (λ w. w ∷ xs) same ∙ ap (λ l. y ∷ l) rest

  -- where a cycle is reported, the table isn't guarded
  pub IsLeastCycle-unguarded : (xs : List ℕ) → IsLeastCycle g xs → IsGuarded g → ⊥
  IsLeastCycle-unguarded [] h all = h
  IsLeastCycle-unguarded (x ∷ xs) h all =
      let c = h.0.on_cycle in true≢false (sym c.1 ∙ all x c.0)

-- References end where those after the first one do, and the ends of opposites are opposites.
use Rattle.std.proofs.Common.{◌≡◌, ◌⊎◌, ⊎_elim, inl, inr, nat_lt, ℕ, zero, suc, ◌<◌, List, [], ◌∷◌, length, get_or, set, Bool, true, false, Option, Some, None, cond, option_map, refl, ap, sym, ◌∙◌, arith, subst}
use Rattle.std.proofs.lemmas.List.{get_or-set_other, length-set}
use Rattle.std.proofs.lemmas.Grind.{get_or-set_at}
use Rattle.std.proofs.lemmas.Bool.{cases_eq, and_parts, ltb-true, lt-ltb, true≢false}
use Rattle.positions.specs.Position.{Position, Same, Not, position_at, names_below, is_table}
use Rattle.position_laws.proofs.Tables.{is_table-IsTable, is_table-below}
use Rattle.goals.specs.Signed.{Signed, Plus, Minus, position_of, opposite, same_signed}
use Rattle.goals.specs.Goal.{plus_reference, minus_reference, reference, follow_on, follow_within, follow}
use Rattle.goal_laws.proofs.Forms.{follow-ends, follow-inside}
use Rattle.js_algebra.specs.View.{with_sign, is_in_table}
use Rattle.js_algebra.proofs.Tables.{every-position_at}
use Rattle.js_algebra.specs.Ends.{MayBeEnds, AreLeft, HasEnds, signed_by, reference_of, known_at}
use Rattle.goal_laws.proofs.Signs.{opposite-opposite, same_signed-itself}

-- a reference names a position that its node names
names-reference : (n : ℕ) (P : Position) (b : Bool) (y : Signed) → names_below n P ≡ true → Some y ≡ reference_of b P
    → nat_lt (position_of y) n ≡ true
names-reference n (Same q) true y e h =
    let same : Plus q ≡ y = cc in
    subst (λ z. nat_lt (position_of z) n ≡ true) same (and_parts _ true (and_parts _ true e).0).0
names-reference n (Same q) false y e h =
    let same : Minus q ≡ y = cc in
    subst (λ z. nat_lt (position_of z) n ≡ true) same (and_parts _ true (and_parts _ true e).0).0
names-reference n (Not q) true y e h =
    let same : Minus q ≡ y = cc in
    subst (λ z. nat_lt (position_of z) n ≡ true) same (and_parts _ true (and_parts _ true e).0).0
names-reference n (Not q) false y e h =
    let same : Plus q ≡ y = cc in
    subst (λ z. nat_lt (position_of z) n ≡ true) same (and_parts _ true (and_parts _ true e).0).0
names-reference n _ true y e h = cc
names-reference n _ false y e h = cc

-- a signed position of the table has its place in it
pub inside : (T : List Position) (b : Bool) (p : ℕ) → is_in_table T (with_sign b p) ≡ true → p < length T
inside T true p i = ltb-true p (length T) i
inside T false p i = ltb-true p (length T) i

-- signs

pub signed_by-twice : (b : Bool) (x : Signed) → signed_by b (signed_by b x) ≡ x
signed_by-twice true x = refl
signed_by-twice false x = opposite-opposite x

module _ (T : List Position) where
  minus_plus : (P : Position) → minus_reference P ≡ option_map opposite (plus_reference P)
  minus_plus (Same q) = refl
  minus_plus (Not q) = refl
  minus_plus _ = refl

  plus_minus : (P : Position) → plus_reference P ≡ option_map opposite (minus_reference P)
  plus_minus (Same q) = refl
  plus_minus (Not q) = refl
  plus_minus _ = refl

  reference-opposite : (x : Signed) → reference T (opposite x) ≡ option_map opposite (reference T x)
  reference-opposite (Plus p) = minus_plus (position_at T p)
  reference-opposite (Minus p) = plus_minus (position_at T p)

  follow_within-opposite : (n : ℕ) (x : Signed) → follow_within T n (opposite x) ≡ opposite (follow_within T n x)
  follow_within-opposite zero x = refl
  follow_within-opposite (suc n) x =
      ap (follow_on (follow_within T n) (opposite x)) (reference-opposite x)
      ∙ go (reference T x) (follow_within-opposite n)
    where
      go : (o : Option Signed) → ((y : Signed) → follow_within T n (opposite y) ≡ opposite (follow_within T n y))
          → follow_on (follow_within T n) (opposite x) (option_map opposite o)
          ≡ opposite (follow_on (follow_within T n) x o)
      go None more = refl
      go (Some y) more = more y

  pub follow-opposite : (x : Signed) → follow T (opposite x) ≡ opposite (follow T x)
  unfolding follow
  follow-opposite x = follow_within-opposite (length T) x

  pub follow-signed : (b : Bool) (p : ℕ) → follow T (with_sign b p) ≡ signed_by b (follow T (Plus p))
  follow-signed true p = refl
  follow-signed false p = follow-opposite (Plus p)

  pub signed-follow : (b : Bool) (p : ℕ) → signed_by b (follow T (with_sign b p)) ≡ follow T (Plus p)
  signed-follow b p = ap (signed_by b) (follow-signed b p) ∙ signed_by-twice b (follow T (Plus p))

  -- where the steps end, one more leads no further
  follow_within-more : (n : ℕ) (x : Signed) → reference T (follow_within T n x) ≡ None
      → follow_within T (suc n) x ≡ follow_within T n x
  follow_within-more zero x e = ap (follow_on (λ y. y) x) e
  follow_within-more (suc n) x e = go (reference T x) (follow_within-more n) e where
    go : (o : Option Signed)
        → ((y : Signed) → reference T (follow_within T n y) ≡ None
        → follow_within T (suc n) y ≡ follow_within T n y)
        → reference T (follow_on (follow_within T n) x o) ≡ None
        → follow_on (follow_within T (suc n)) x o ≡ follow_on (follow_within T n) x o
    go None more e = refl
    go (Some y) more e = more y e

  next_within : (n : ℕ) (x y : Signed) → reference T x ≡ Some y → reference T (follow_within T n x) ≡ None
      → follow_within T n x ≡ follow_within T n y
  next_within zero x y e h = let same : Some y ≡ None = sym e ∙ h in cc
  next_within (suc n) x y e h =
      let first : follow_within T (suc n) x ≡ follow_within T n y = ap (follow_on (follow_within T n) x) e in
      first ∙ sym (follow_within-more n y (subst (λ z. reference T z ≡ None) first h))

  pub follow-next : HasEnds T → (x y : Signed) → Some y ≡ reference T x → follow T x ≡ follow T y
  unfolding follow
  follow-next ok x y e = next_within (length T) x y (sym e) (ok.ended x)

  pub next-inside : HasEnds T → (x y : Signed) → is_in_table T x ≡ true → Some y ≡ reference T x
      → is_in_table T y ≡ true
  next-inside ok (Plus p) y i e =
      names-reference (length T) (position_at T p) true y
      (every-position_at (names_below (length T)) T p (ltb-true p (length T) i) ok.named) e
  next-inside ok (Minus p) y i e =
      names-reference (length T) (position_at T p) false y
      (every-position_at (names_below (length T)) T p (ltb-true p (length T) i) ok.named) e

  pub within-next : (n m : ℕ) (x y : Signed) → n ≡ suc m → Some y ≡ reference T x
      → follow_within T n x ≡ follow_within T m y
  within-next n m x y e r =
      ap (λ k. follow_within T k x) e ∙ ap (λ o. follow_on (follow_within T m) x o) (sym r)

-- a table's references end

ends : (T : List Position) (ranks : List ℕ) → is_table T ranks ≡ true → (x : Signed)
    → reference T (follow T x) ≡ None
unfolding follow
ends [] ranks e (Plus p) = refl
ends [] ranks e (Minus p) = refl
ends (P ∷ T) ranks e x = follow-ends (P ∷ T) (is_table-IsTable (P ∷ T) ranks e (omega arith)) x

pub table-ends : (T : List Position) (ranks : List ℕ) → is_table T ranks ≡ true → HasEnds T
table-ends T ranks e = record { named = is_table-below T ranks e; ended = ends T ranks e }

-- what is known of ends

module _ (T : List Position) (ends : List Signed) (known : MayBeEnds T ends) where
  pub known-end : (p : ℕ) (b : Bool) (y : Signed) → p < length T → Some y ≡ known_at ends b p
      → y ≡ follow T (with_sign b p)
  known-end p b y l e = go (same_signed (get_or ends p (Plus p)) (Plus p)) refl e where
    found : get_or ends p (Plus p) ≡ follow T (Plus p) → y ≡ signed_by b (get_or ends p (Plus p))
        → y ≡ follow T (with_sign b p)
    found h e = e ∙ ap (signed_by b) h ∙ sym (follow-signed T b p)

    go : (t : Bool) → same_signed (get_or ends p (Plus p)) (Plus p) ≡ t
        → Some y ≡ cond t None (Some (signed_by b (get_or ends p (Plus p)))) → y ≡ follow T (with_sign b p)
    go true h e = cc
    go false h e =
        ⊎_elim
        (λ s. absurd (true≢false (sym (same_signed-itself (Plus p)) ∙ ap (λ z. same_signed z (Plus p)) (sym s) ∙ h)))
        (λ s. let same : y ≡ signed_by b (get_or ends p (Plus p)) = cc in found s same) (known.each p l)

  -- where the end of one more position is set
  pub set-kept : (q p : ℕ) (y : Signed) → y ≡ follow T (Plus q) → p < length T
      → get_or ends p (Plus p) ≡ follow T (Plus p)
      → get_or (set ends q y) p (Plus p) ≡ follow T (Plus p)
  set-kept q p y e l h = elim (cases_eq p q) [
    | inl s ↦
        get_or-set_at ends q p y (Plus p) s (let c = known.count in omega arith) ∙ e ∙ ap (λ k. follow T (Plus k)) (sym s)
    | inr n ↦ get_or-set_other ends q p y (Plus p) n ∙ h
  ]

  pub set-here : (q : ℕ) (y : Signed) → y ≡ follow T (Plus q) → q < length T
      → get_or (set ends q y) q (Plus q) ≡ follow T (Plus q)
  set-here q y e l = get_or-set_at ends q q y (Plus q) refl (let c = known.count in omega arith) ∙ e

  pub known-set : (q : ℕ) (y : Signed) → y ≡ follow T (Plus q) → MayBeEnds T (set ends q y)
  known-set q y e = record {
    count = length-set ends q y ∙ known.count;
    each = each;
  } where
    each : (p : ℕ) → p < length T
        → (get_or (set ends q y) p (Plus p) ≡ Plus p) ⊎ (get_or (set ends q y) p (Plus p) ≡ follow T (Plus p))
    each p l = elim (cases_eq p q) [
      | inl s ↦
          inr (get_or-set_at ends q p y (Plus p) s (let c = known.count in omega arith) ∙ e
          ∙ ap (λ k. follow T (Plus k)) (sym s))
      | inr n ↦ subst (λ z. (z ≡ Plus p) ⊎ (z ≡ follow T (Plus p)))
          (sym (get_or-set_other ends q p y (Plus p) n)) (known.each p l)
    ]

-- the end of p is left at its place
pub left-first : (T : List Position) (ends new : List Signed) (b : Bool) (p : ℕ) (y : Signed) → MayBeEnds T ends
    → is_in_table T (with_sign b p) ≡ true → y ≡ follow T (with_sign b p) → new ≡ set ends p (signed_by b y)
    → AreLeft T p ends new
left-first T ends new b p y known i e h =
    let own : signed_by b y ≡ follow T (Plus p) = ap (signed_by b) e ∙ signed-follow T b p in
    subst (AreLeft T p ends) (sym h) (record {
      known = known-set T ends known p (signed_by b y) own;
      here = set-here T ends known p (signed_by b y) own (inside T b p i);
      kept = λ q l k. set-kept T ends known p q (signed_by b y) own l k;
    })

-- and later at the place of q
pub left-next : (T : List Position) (p : ℕ) (old ends new : List Signed) (b : Bool) (q : ℕ) (y : Signed)
    → AreLeft T p old ends → p < length T → y ≡ follow T (with_sign b q) → new ≡ set ends q (signed_by b y)
    → AreLeft T p old new
left-next T p old ends new b q y left l e h =
    let own : signed_by b y ≡ follow T (Plus q) = ap (signed_by b) e ∙ signed-follow T b q in
    subst (AreLeft T p old) (sym h) (record {
      known = known-set T ends left.known q (signed_by b y) own;
      here = set-kept T ends left.known q p (signed_by b y) own l left.here;
      kept = λ k m n. set-kept T ends left.known q k (signed_by b y) own m (left.kept k m n);
    })

-- an end is in the table
pub follow-in_table : (T : List Position) (ranks : List ℕ) → is_table T ranks ≡ true → (x : Signed)
    → is_in_table T x ≡ true → is_in_table T (follow T x) ≡ true
follow-in_table T ranks e x i =
    let l = ltb-true (position_of x) (length T) i in
    lt-ltb _ (length T) (follow-inside T (is_table-IsTable T ranks e (omega arith)) x l)

-- A document meets a list exactly where it meets the goal that the list forms; that goal forms itself.
use Rattle.std.proofs.Common.{◌≡◌, ℕ, zero, suc, ◌<◌, inl, inr, Bool, true, false, ◌&&◌, ◌||◌, cond, not, List, [], ◌∷◌, length, Option, Some, None, nat_lt, is_none, refl, ap, ap₂, sym, ◌∙◌, subst, arith}
use Rattle.std.proofs.Math.Bool.{and-true}
use Rattle.std.proofs.lemmas.Bool.{and_from, or_parts, or_cases, not-true, ltb-true, lt-ltb, cond-false, false_from_ne_true}
use Rattle.std.specs.List.{AllByRecursion}
use Rattle.documents.specs.Tests.{every}
use Rattle.documents.specs.Document.{Document}
use Rattle.positions.specs.Position.{Position, True, False, Same, Not, position_at, in_place}
use Rattle.positions.specs.Holds.{asks, holds, IsTable}
use Rattle.position_laws.proofs.Asks.{holds-asks}
use Rattle.goals.specs.Signed.{Signed, Plus, Minus, position_of, opposite, has, add_all, is_rising, met, meets}
use Rattle.goals.specs.Goal.{plus_reference, minus_reference, reference, follow_on, follow_within, follow, is_always, is_never, followed, clashes, form_of, form, contains}
use Rattle.goal_laws.specs.Formed.{meets_goal, IsFormed}
use Rattle.goal_laws.proofs.Signs.{has-here, has-there, has-every, every-has, some-has, some-none, every-add_all, met-opposite, is_rising-add_all, add_all-itself}
use Rattle.goal_laws.proofs.Rules.{meets-clash}
use Rattle.list_laws.proofs.Options.{is_none-None}

-- the end of a chain of references

follow_on-none : (more : Signed → Signed) (x : Signed) (o : Option Signed) → o ≡ None → follow_on more x o ≡ x
follow_on-none more x None e = refl
follow_on-none more x (Some y) e = cc

follow_within-itself : (T : List Position) (n : ℕ) (x : Signed) → reference T x ≡ None
    → follow_within T n x ≡ x
follow_within-itself T zero x e = refl
follow_within-itself T (suc n) x e = follow_on-none (follow_within T n) x (reference T x) e

pub follow-itself : (T : List Position) (x : Signed) → reference T x ≡ None → follow T x ≡ x
unfolding follow
follow-itself T x e = follow_within-itself T (length T) x e

-- a reference goes to an in-place name, and turns the sign round
plus_reference-names : (Q : ℕ → Type 0) (P : Position) (y : Signed) → AllByRecursion Q (in_place P)
    → plus_reference P ≡ Some y → Q (position_of y)
plus_reference-names Q (Same q) y h e = let same : Plus q ≡ y = cc in subst (λ z. Q (position_of z)) same h.0
plus_reference-names Q (Not q) y h e = let same : Minus q ≡ y = cc in subst (λ z. Q (position_of z)) same h.0
plus_reference-names Q _ y h e = cc

minus_reference-names : (Q : ℕ → Type 0) (P : Position) (y : Signed) → AllByRecursion Q (in_place P)
    → minus_reference P ≡ Some y → Q (position_of y)
minus_reference-names Q (Same q) y h e = let same : Minus q ≡ y = cc in subst (λ z. Q (position_of z)) same h.0
minus_reference-names Q (Not q) y h e = let same : Plus q ≡ y = cc in subst (λ z. Q (position_of z)) same h.0
minus_reference-names Q _ y h e = cc

reference-names : (Q : ℕ → Type 0) (T : List Position) (x y : Signed)
    → AllByRecursion Q (in_place (position_at T (position_of x))) → reference T x ≡ Some y → Q (position_of y)
reference-names Q T (Plus p) y h e = plus_reference-names Q (position_at T p) y h e
reference-names Q T (Minus p) y h e = minus_reference-names Q (position_at T p) y h e

module _ (T : List Position) (ok : IsTable T) where
  -- ranks fall along references, so the chain ends within as many steps as the rank
  follow_within-ends : (n : ℕ) (x : Signed) → ok.rank (position_of x) < n
      → reference T (follow_within T n x) ≡ None
  follow_within-ends zero x l = absurd (omega arith)
  follow_within-ends (suc n) x l = go (reference T x) refl (follow_within-ends n) where
    go : (o : Option Signed) → reference T x ≡ o
        → ((y : Signed) → ok.rank (position_of y) < n → reference T (follow_within T n y) ≡ None)
        → reference T (follow_on (follow_within T n) x o) ≡ None
    go None e more = e
    go (Some y) e more =
        let less : ok.rank (position_of y) < ok.rank (position_of x) =
        reference-names (λ q. ok.rank q < ok.rank (position_of x)) T x y
        (ok.ranked.falls (position_of x)) e in
        more y (omega arith)

  pub follow-ends : (x : Signed) → reference T (follow T x) ≡ None
  unfolding follow
  follow-ends x = follow_within-ends (length T) x (ok.ranked.bounded (position_of x))

  follow_within-inside : (n : ℕ) (x : Signed) → position_of x < length T
      → position_of (follow_within T n x) < length T
  follow_within-inside zero x l = l
  follow_within-inside (suc n) x l = go (reference T x) refl (follow_within-inside n) where
    go : (o : Option Signed) → reference T x ≡ o
        → ((y : Signed) → position_of y < length T → position_of (follow_within T n y) < length T)
        → position_of (follow_on (follow_within T n) x o) < length T
    go None e more = l
    go (Some y) e more = more y (reference-names (λ q. q < length T) T x y (ok.named (position_of x)) e)

  pub follow-inside : (x : Signed) → position_of x < length T → position_of (follow T x) < length T
  unfolding follow
  follow-inside x l = follow_within-inside (length T) x l

-- what a reference means

module _ (T : List Position) (ok : IsTable T) (J : Document) where
  abbrev here : ℕ → Bool
  here p = holds T p J

  plus_reference-asks : (P : Position) (y : Signed) → plus_reference P ≡ Some y
      → met here y ≡ asks here (holds T) P J
  plus_reference-asks (Same q) y e = let same : Plus q ≡ y = cc in ap (met here) (sym same)
  plus_reference-asks (Not q) y e = let same : Minus q ≡ y = cc in ap (met here) (sym same)
  plus_reference-asks _ y e = cc

  minus_reference-asks : (P : Position) (y : Signed) → minus_reference P ≡ Some y
      → met here y ≡ not (asks here (holds T) P J)
  minus_reference-asks (Same q) y e = let same : Minus q ≡ y = cc in ap (met here) (sym same)
  minus_reference-asks (Not q) y e =
      let same : Plus q ≡ y = cc in ap (met here) (sym same) ∙ met-opposite here (Minus q)
  minus_reference-asks _ y e = cc

  reference-met : (x y : Signed) → reference T x ≡ Some y → met here y ≡ met here x
  reference-met (Plus p) y e = plus_reference-asks (position_at T p) y e ∙ sym (holds-asks T ok p J)
  reference-met (Minus p) y e =
      minus_reference-asks (position_at T p) y e ∙ ap not (sym (holds-asks T ok p J))

  follow_within-met : (n : ℕ) (x : Signed) → met here (follow_within T n x) ≡ met here x
  follow_within-met zero x = refl
  follow_within-met (suc n) x = go (reference T x) refl (follow_within-met n) where
    go : (o : Option Signed) → reference T x ≡ o
        → ((y : Signed) → met here (follow_within T n y) ≡ met here y)
        → met here (follow_on (follow_within T n) x o) ≡ met here x
    go None e more = refl
    go (Some y) e more = more y ∙ reference-met x y e

  pub follow-met : (x : Signed) → met here (follow T x) ≡ met here x
  unfolding follow
  follow-met x = follow_within-met (length T) x

  pub is_always-met : (x : Signed) → is_always T x ≡ true → met here x ≡ true
  is_always-met (Plus p) e = holds-asks T ok p J ∙ go (position_at T p) e where
    go : (P : Position) → is_always (P ∷ []) (Plus 0) ≡ true → asks here (holds T) P J ≡ true
    go True e = refl
    go _ e = cc
  is_always-met (Minus p) e = ap not (holds-asks T ok p J) ∙ go (position_at T p) e where
    go : (P : Position) → is_always (P ∷ []) (Minus 0) ≡ true → not (asks here (holds T) P J) ≡ true
    go False e = refl
    go _ e = cc

  pub is_never-met : (x : Signed) → is_never T x ≡ true → met here x ≡ false
  is_never-met x e = not-true (met here x) (sym (met-opposite here x) ∙ is_always-met (opposite x) e)

  followed-met : (xs : List Signed) → every (met here) (followed T xs) ≡ every (met here) xs
  followed-met [] = refl
  followed-met (x ∷ xs) = go (is_always T (follow T x)) refl (followed-met xs) where
    go : (b : Bool) → is_always T (follow T x) ≡ b → every (met here) (followed T xs) ≡ every (met here) xs
        → every (met here) (cond b (followed T xs) (follow T x ∷ followed T xs))
        ≡ (met here x && every (met here) xs)
    go true e more =
        more ∙ ap (λ b. b && every (met here) xs) (sym (sym (follow-met x) ∙ is_always-met (follow T x) e))
    go false e more =
        ap (λ b. b && every (met here) (followed T xs)) (follow-met x) ∙ ap (λ b. met here x && b) more

  -- a set with a signed position that is never met, or with both signs of one, is met by no document
  clashes-met : (S : List Signed) → clashes T S ≡ true → meets T S J ≡ false
  clashes-met S e =
      let (x, i, h) = some-has (λ x. is_never T x || has (opposite x) S) S e in
      elim (or_cases (is_never T x) (has (opposite x) S) h) [
        | inl never ↦ false_from_ne_true (meets T S J) (λ m. cc (every-has (met here) S x m i, is_never-met x never))
        | inr both ↦ meets-clash T ok J S x i both
      ]

  -- a document meets a list exactly where it meets the goal that the list forms
  pub meets-form : (xs : List Signed) → meets T xs J ≡ meets_goal T (form T xs) J
  meets-form xs =
      sym (followed-met xs)
      ∙ sym (every-add_all (met here) (followed T xs) [] ∙ and-true (every (met here) (followed T xs)))
      ∙ go (add_all (followed T xs) []) where
        of_clash : (S : List Signed) (b : Bool) → clashes T S ≡ b
            → meets T S J ≡ meets_goal T (cond b None (Some S)) J
        of_clash S true e = clashes-met S e
        of_clash S false e = refl

        go : (S : List Signed) → meets T S J ≡ meets_goal T (form_of T S) J
        go S = of_clash S (clashes T S) refl

  -- the goal of one position that is to hold and one that is not to
  pub meets-root : (a b : ℕ)
      → meets_goal T (form T (Plus a ∷ Minus b ∷ [])) J ≡ (holds T a J && not (holds T b J))
  meets-root a b =
      sym (meets-form (Plus a ∷ Minus b ∷ [])) ∙ ap (λ c. holds T a J && c) (and-true (not (holds T b J)))

  -- the big goal requires more
  pub contains-met : (big small : List Signed) → contains big small ≡ true → meets T big J ≡ true
      → meets T small J ≡ true
  contains-met big small e m =
      has-every (met here) small (λ x i. every-has (met here) big x m (every-has (λ y. has y big) small x e i))

-- formed goals

module _ (T : List Position) (ok : IsTable T) where
  -- what is true of each followed signed position that isn't always met is true of the formed goal
  followed-every : (p : Signed → Bool) (xs : List Signed)
      → ((x : Signed) → has x xs ≡ true → is_always T (follow T x) ≡ false → p (follow T x) ≡ true)
      → every p (followed T xs) ≡ true
  followed-every p [] h = refl
  followed-every p (x ∷ xs) h =
      go (is_always T (follow T x)) refl (followed-every p xs (λ y i. h y (has-there y x xs i))) where
        go : (b : Bool) → is_always T (follow T x) ≡ b → every p (followed T xs) ≡ true
            → every p (cond b (followed T xs) (follow T x ∷ followed T xs)) ≡ true
        go true e more = more
        go false e more = and_from _ _ (h x (has-here x xs) e) more

  form-parts : (xs g : List Signed) → form T xs ≡ Some g
      → (add_all (followed T xs) [] ≡ g) × (clashes T g ≡ false)
  form-parts xs g e = go (clashes T (add_all (followed T xs) [])) refl e where
    go : (b : Bool) → clashes T (add_all (followed T xs) []) ≡ b
        → cond b None (Some (add_all (followed T xs) [])) ≡ Some g
        → (add_all (followed T xs) [] ≡ g) × (clashes T g ≡ false)
    go true h k = cc
    go false h k =
        let same : add_all (followed T xs) [] ≡ g = cc in (same, subst (λ S. clashes T S ≡ false) same h)

  form-every : (p : Signed → Bool) (xs g : List Signed) → form T xs ≡ Some g
      → ((x : Signed) → has x xs ≡ true → is_always T (follow T x) ≡ false → p (follow T x) ≡ true)
      → every p g ≡ true
  form-every p xs g e h =
      let (same, clear) = form-parts xs g e in
      subst (λ S. every p S ≡ true) same
      (every-add_all p (followed T xs) [] ∙ and_from _ true (followed-every p xs h) refl)

  pub form-IsFormed : (xs g : List Signed) → form T xs ≡ Some g → IsFormed T g
  form-IsFormed xs g e =
      let (same, clear) = form-parts xs g e in
      record {
        rising = subst (λ S. is_rising S ≡ true) same (is_rising-add_all (followed T xs) [] refl);
        no_clash = clear;
        none_always = λ x i. not-true _ (every-has (λ y. not (is_always T y)) g x
            (form-every (λ y. not (is_always T y)) xs g e (λ y j h. ap not h)) i);
        none_never =
            λ x i. (or_parts _ _ (some-none (λ y. is_never T y || has (opposite y) g) g x clear i)).0;
        no_reference = λ x i. is_none-None (reference T x) (every-has (λ y. is_none (reference T y)) g x
            (form-every (λ y. is_none (reference T y)) xs g e (λ y j h. ap is_none (follow-ends T ok y))) i);
      }

  -- the positions of a formed goal are in the table
  pub form-inside : (xs g : List Signed) → form T xs ≡ Some g
      → every (λ x. nat_lt (position_of x) (length T)) xs ≡ true
      → every (λ x. nat_lt (position_of x) (length T)) g ≡ true
  form-inside xs g e h =
      form-every (λ x. nat_lt (position_of x) (length T)) xs g e
      (λ x i a.
      let inside : position_of x < length T =
      ltb-true _ (length T) (every-has (λ y. nat_lt (position_of y) (length T)) xs x h i) in
      lt-ltb _ (length T) (follow-inside T ok x inside))

followed-itself : (T : List Position) (g : List Signed)
    → ((x : Signed) → has x g ≡ true → is_always T x ≡ false)
    → ((x : Signed) → has x g ≡ true → reference T x ≡ None) → followed T g ≡ g
followed-itself T [] a r = refl
followed-itself T (x ∷ g) a r =
    go (follow T x) (is_always T (follow T x)) (follow-itself T x (r x (has-here x g))) refl
    (followed-itself T g (λ y i. a y (has-there y x g i)) (λ y i. r y (has-there y x g i))) where
      go : (y : Signed) (b : Bool) → y ≡ x → is_always T y ≡ b → followed T g ≡ g
          → cond b (followed T g) (y ∷ followed T g) ≡ x ∷ g
      go y true e h more = cc (subst (λ z. is_always T z ≡ true) e h, a x (has-here x g))
      go y false e h more = ap₂ (λ z S. z ∷ S) e more

-- forming leaves a formed goal as it is
pub form-itself : (T : List Position) (g : List Signed) → IsFormed T g → form T g ≡ Some g
form-itself T g formed =
    let same = followed-itself T g formed.none_always formed.no_reference in
    ap (form_of T) (ap (λ S. add_all S []) same ∙ add_all-itself g formed.rising)
    ∙ cond-false (clashes T g) None (Some g) formed.no_clash

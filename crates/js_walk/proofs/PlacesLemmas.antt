-- Places by the numbers of their pointers: the first with that number is the one that is looked up.
use Rattle.std.proofs.Common.{◌≡◌, ℕ, ◌<◌, suc, ◌+◌, List, [], ◌∷◌, map, length, get_or, Bool, true, false, not, cond, ◌||◌, nat_lt, nat_eq, Some, None, is_some, position, refl, sym, ap, subst, ◌∙◌, arith}
use Rattle.std.specs.List.{position_or_len}
use Rattle.std.specs.Map.{keys_of, lookup}
use Rattle.std.proofs.lemmas.Bool.{ltb-true, eqb-true, eq-eqb, and_parts}
use Rattle.std.proofs.lemmas.Bool.Decides.{same_from_decides}
use Rattle.std.proofs.lemmas.List.{append-nil}
use Rattle.documents.specs.Tests.{every}
use Rattle.schemas.specs.Places.{Pointer, same_pointer, has_place}
use Rattle.schemas.specs.Entries.{number_of}
use Rattle.schema_laws.proofs.Pointers.{same_pointer-refl, same_pointer-eq}
use Rattle.js_pointers.specs.Table.{AreDistinct, Leads}
use Rattle.js_pointers.proofs.PositionLemmas.{position_or_len-None, position_or_len-Some}
use Rattle.js_walk.specs.declared.place.Done.{Done}
use Rattle.js_walk.specs.PlacesView.{done_view}

abbrev pub within : List Pointer → List (ℕ × Done) → Bool
within ps es = every (λ e. nat_lt e.0 (length ps)) es

-- a pointer that has a number
module _ (ps : List Pointer) (distinct : AreDistinct ps) (n : ℕ) (p : Pointer) (less : n < length ps)
    (is : get_or ps n [] ≡ p) where
  agree : (k : ℕ) → k < length ps → nat_eq n k ≡ same_pointer p (get_or ps k [])
  agree k l =
      same_from_decides {P = nat_eq n k ≡ true} _ _ (λ h. h, λ h. h) (
        λ h. eq-eqb n k (distinct n k less l (is ∙ same_pointer-eq p (get_or ps k []) h)),
        λ h. subst (λ q. same_pointer p q ≡ true) (sym is ∙ ap (λ j. get_or ps j []) (eqb-true n k h))
            (same_pointer-refl p),
      )

  pub has_place-lookup : (es : List (ℕ × Done)) → within ps es ≡ true
      → is_some (lookup (nat_eq n) es) ≡ has_place (map (done_view ps) es) p
  has_place-lookup [] all = refl
  has_place-lookup (e ∷ es) all =
      let parts = and_parts (nat_lt e.0 (length ps)) (within ps es) all in
      go (nat_eq n e.0) (same_pointer p (get_or ps e.0 [])) (agree e.0 (ltb-true e.0 (length ps) parts.0))
      (has_place-lookup es parts.1)
    where
      go : (a b : Bool) → a ≡ b → is_some (lookup (nat_eq n) es) ≡ has_place (map (done_view ps) es) p
          → is_some (cond a (Some e.1) (lookup (nat_eq n) es)) ≡ (b || has_place (map (done_view ps) es) p)
      go true true s h = refl
      go false false s h = h
      go true false s h = absurd (cc)
      go false true s h = absurd (cc)

  number_of-place : (es : List (ℕ × Done)) → within ps es ≡ true
      → position_or_len (nat_eq n) (keys_of es) ≡ number_of (map (done_view ps) es) p
  number_of-place [] all = refl
  number_of-place (e ∷ es) all =
      let parts = and_parts (nat_lt e.0 (length ps)) (within ps es) all in
      go (nat_eq n e.0) (same_pointer p (get_or ps e.0 [])) (agree e.0 (ltb-true e.0 (length ps) parts.0))
      (number_of-place es parts.1)
    where
      go : (a b : Bool) → a ≡ b → position_or_len (nat_eq n) (keys_of es) ≡ number_of (map (done_view ps) es) p
          → cond (not a) (1 + position_or_len (nat_eq n) (keys_of es)) 0
          ≡ cond b 0 (suc (number_of (map (done_view ps) es) p))
      go true true s h = refl
      go false false s h = omega (arith, h)
      go true false s h = absurd (cc)
      go false true s h = absurd (cc)

  pub number_of-some : (es : List (ℕ × Done)) (m : ℕ) → within ps es ≡ true
      → position (nat_eq n) (keys_of es) ≡ Some m → m ≡ number_of (map (done_view ps) es) p
  number_of-some es m all h =
      position_or_len-Some (nat_eq n) (keys_of es) m h ∙ number_of-place es all

  length-keys_of : (es : List (ℕ × Done)) → length es ≡ length (keys_of es)
  length-keys_of [] = refl
  length-keys_of (e ∷ es) = ap suc (length-keys_of es)

  pub number_of-none : (es : List (ℕ × Done)) → within ps es ≡ true
      → position (nat_eq n) (keys_of es) ≡ None → length es ≡ number_of (map (done_view ps) es) p
  number_of-none es all h =
      length-keys_of es ∙ sym (position_or_len-None (nat_eq n) (keys_of es) h) ∙ number_of-place es all

-- a pointer that has no number is that of no place
pub number_of-absent : (ps : List Pointer) (p : Pointer) (es : List (ℕ × Done)) → Leads ps None p
    → within ps es ≡ true → length es ≡ number_of (map (done_view ps) es) p
number_of-absent ps p [] none all = refl
number_of-absent ps p (e ∷ es) none all =
    let parts = and_parts (nat_lt e.0 (length ps)) (within ps es) all in
    go (same_pointer p (get_or ps e.0 [])) refl (ltb-true e.0 (length ps) parts.0)
    (number_of-absent ps p es none parts.1)
  where
    go : (b : Bool) → same_pointer p (get_or ps e.0 []) ≡ b → e.0 < length ps
        → length es ≡ number_of (map (done_view ps) es) p
        → suc (length es) ≡ cond b 0 (suc (number_of (map (done_view ps) es) p))
    go true s l h =
        absurd (none e.0 [] l (sym (same_pointer-eq p (get_or ps e.0 []) s) ∙ sym (append-nil p)))
    go false s l h = ap suc h

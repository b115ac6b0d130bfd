-- What is read at a number, where there is something and where there is nothing.
use Rattle.std.proofs.Common.{◌≡◌, ℕ, zero, suc, ◌<◌, ◌≤◌, Bool, false, ◌&&◌, List, [], ◌∷◌, map, length, get_or, Option, None, refl, ap, sym, ◌∙◌, arith}
use Rattle.std.proofs.lemmas.List.{length-map}
use Rattle.cells.specs.Cells.{vector_at}
use Rattle.js_check_rows.specs.declared.fault.RowFault.TheVariants as R
use Rattle.js_said.proofs.RowVectors.{kept_at, vector-past}
use Rattle.js_check_objects.specs.Bounds.{cap_at}

-- bounds of cells

cap_get : (os : List (Option ℕ)) (c : ℕ) (d : Option ℕ) → c < length os → get_or os c d ≡ cap_at os c
cap_get [] c d l = absurd (omega (arith, l))
cap_get (o ∷ os) zero d l = refl
cap_get (o ∷ os) (suc c) d l = cap_get os c d (omega (arith, l))

cap_none : (os : List (Option ℕ)) (c : ℕ) → length os ≤ c → None ≡ cap_at os c
cap_none [] c l = refl
cap_none (o ∷ os) zero l = absurd (omega (arith, l))
cap_none (o ∷ os) (suc c) l = cap_none os c (omega (arith, l))

-- what is read at the number of a listed bound is that bound
pub cap-within : (os new : List (Option ℕ)) (c : ℕ) (o : Option ℕ) → new ≡ os → c < length new → o ≡ get_or new c o
    → o ≡ cap_at os c
cap-within os new c o e l h = h ∙ cap_get new c o l ∙ ap (λ z. cap_at z c) e

pub cap-past : (os new : List (Option ℕ)) (c : ℕ) → new ≡ os → length new ≤ c → None ≡ cap_at os c
cap-past os new c e l = cap_none new c l ∙ ap (λ z. cap_at z c) e

-- bits of vectors

none_at : {V : Type 0} (items : V → List Bool) (ks : List V) (c : ℕ) → length ks ≤ c → vector_at (map items ks) c ≡ []
none_at items ks c l = let n = length-map ks items in vector-past (map items ks) c (omega (arith, n, l))

-- what is read at the numbers of a vector and of one of its bits is that bit
pub bit-within : {V : Type 0} (items : V → List Bool) (ks new : List V) (c i : ℕ) (v : V) (bits : List Bool)
    → new ≡ ks → c < length new → v ≡ get_or new c v → bits ≡ items v
    → get_or bits i false ≡ get_or (vector_at (map items ks) c) i false
bit-within items ks new c i v bits e l h b =
    ap (λ z. get_or z i false)
    (b ∙ ap items h ∙ sym (kept_at items new c v l) ∙ ap (λ z. vector_at (map items z) c) e)

pub bit-past : {V : Type 0} (items : V → List Bool) (ks new : List V) (c i : ℕ) → new ≡ ks → length new ≤ c
    → false ≡ get_or (vector_at (map items ks) c) i false
bit-past items ks new c i e l =
    sym (ap (λ z. get_or z i false) (sym (ap (λ z. vector_at (map items z) c) e) ∙ none_at items new c l))

-- the parts of the rule of a bound

-- The values in a value: as many as are counted, and with each of them those in it.
use Rattle.std.proofs.Common.{◌≡◌, ℕ, zero, suc, ◌+◌, List, [], ◌∷◌, ◌++◌, length, inl, inr, ⊎_elim, Bool, true, false, cond, Option, Some, None, option_and_then, slice_get, refl, sym, ap, ap₂, subst, ◌∙◌, arith, append_assoc, append-nil, length-append}
use Rattle.std.proofs.lemmas.Option.{none-some, same_Some}
use Rattle.documents.specs.Tests.{same_word}
use Rattle.documents.specs.Json.{Json, null, boolean, number, not_whole, string, array, object, Items, no_items, item, Members, no_members, member, lookup, elements, count, items_count, members_count}
use Rattle.documents.specs.Place.{index_of, child_at, value_at}
use Rattle.schemas.specs.Places.{Pointer, Place, index_token}
use Rattle.list_laws.specs.In.{IsIn}
use Rattle.schema_laws.specs.Values.{inside, of_items, of_members, values_from}
use Rattle.schema_laws.proofs.Tokens.{index_token-of}
use Rattle.list_laws.proofs.Lists.{in_left, in_right, from_append}
use Rattle.list_laws.proofs.Tests.{same_word-true}

-- there are as many values as are counted
mutual
  pub length-inside : (p : Pointer) (v : Json) → suc (length (inside p v)) ≡ count v
  length-inside p null = refl
  length-inside p (boolean b) = refl
  length-inside p (number n) = refl
  length-inside p not_whole = refl
  length-inside p (string s) = refl
  length-inside p (array vs) = ap suc (length-of_items p 0 vs)
  length-inside p (object ms) = ap suc (length-of_members p ms)

  length-of_items : (p : Pointer) (i : ℕ) (vs : Items) → length (of_items p i vs) ≡ items_count vs
  length-of_items p i no_items = refl
  length-of_items p i (item v vs) =
      ap suc (length-append (inside (p ++ index_token i ∷ []) v) (of_items p (suc i) vs))
      ∙ omega (arith, length-inside (p ++ index_token i ∷ []) v, length-of_items p (suc i) vs)

  length-of_members : (p : Pointer) (ms : Members) → length (of_members p ms) ≡ members_count ms
  length-of_members p no_members = refl
  length-of_members p (member k v ms) =
      ap suc (length-append (inside (p ++ k ∷ []) v) (of_members p ms))
      ∙ omega (arith, length-inside (p ++ k ∷ []) v, length-of_members p ms)

-- what is in a value that is in another is in that one
here_or_inside : (p : Pointer) (v : Json) (c : Place) (q : Pointer) (w : Json)
    → ◌≡◌ {A = Place} (q, w) (p, v) → IsIn c (inside q w) → IsIn c (inside p v)
here_or_inside p v c q w e h = subst (λ (z : Place). IsIn c (inside z.0 z.1)) e h

mutual
  pub inside_inside : (p : Pointer) (v : Json) (q : Pointer) (w : Json) (c : Place) → IsIn (q, w) (inside p v)
      → IsIn c (inside q w) → IsIn c (inside p v)
  inside_inside p null q w c h k = absurd h
  inside_inside p (boolean b) q w c h k = absurd h
  inside_inside p (number n) q w c h k = absurd h
  inside_inside p not_whole q w c h k = absurd h
  inside_inside p (string s) q w c h k = absurd h
  inside_inside p (array vs) q w c h k = inside_items p 0 vs q w c h k
  inside_inside p (object ms) q w c h k = inside_members p ms q w c h k

  inside_items : (p : Pointer) (i : ℕ) (vs : Items) (q : Pointer) (w : Json) (c : Place) → IsIn (q, w) (of_items p i vs)
      → IsIn c (inside q w) → IsIn c (of_items p i vs)
  inside_items p i no_items q w c h k = absurd h
  inside_items p i (item v vs) q w c (inl e) k =
      inr (in_left c (inside (p ++ index_token i ∷ []) v) (of_items p (suc i) vs)
      (here_or_inside (p ++ index_token i ∷ []) v c q w e k))
  inside_items p i (item v vs) q w c (inr h) k = inr (⊎_elim
      (λ l. in_left c (inside (p ++ index_token i ∷ []) v) (of_items p (suc i) vs)
      (inside_inside (p ++ index_token i ∷ []) v q w c l k))
      (λ r. in_right c (inside (p ++ index_token i ∷ []) v) (of_items p (suc i) vs)
      (inside_items p (suc i) vs q w c r k))
      (from_append (q, w) (inside (p ++ index_token i ∷ []) v) (of_items p (suc i) vs) h))

  inside_members : (p : Pointer) (ms : Members) (q : Pointer) (w : Json) (c : Place) → IsIn (q, w) (of_members p ms)
      → IsIn c (inside q w) → IsIn c (of_members p ms)
  inside_members p no_members q w c h k = absurd h
  inside_members p (member n v ms) q w c (inl e) k =
      inr (in_left c (inside (p ++ n ∷ []) v) (of_members p ms) (here_or_inside (p ++ n ∷ []) v c q w e k))
  inside_members p (member n v ms) q w c (inr h) k = inr (⊎_elim
      (λ l. in_left c (inside (p ++ n ∷ []) v) (of_members p ms) (inside_inside (p ++ n ∷ []) v q w c l k))
      (λ r. in_right c (inside (p ++ n ∷ []) v) (of_members p ms) (inside_members p ms q w c r k))
      (from_append (q, w) (inside (p ++ n ∷ []) v) (of_members p ms) h))

-- so what is among the values of a value that is in another
pub values_values : (p : Pointer) (v : Json) (q : Pointer) (w : Json) (c : Place) → IsIn (q, w) (values_from p v)
    → IsIn c (values_from q w) → IsIn c (values_from p v)
values_values p v q w c h (inl e) = subst (λ z. IsIn z (values_from p v)) (sym e) h
values_values p v q w c (inl e) (inr k) = inr (here_or_inside p v c q w e k)
values_values p v q w c (inr h) (inr k) = inr (inside_inside p v q w c h k)

-- ---- what is found at a token and at a pointer is among the values

-- element j of a list whose elements are numbered from i on
element_in : (p : Pointer) (i : ℕ) (vs : Items) (j n : ℕ) (w : Json) → n ≡ i + j → slice_get (elements vs) j ≡ Some w
    → IsIn (p ++ index_token n ∷ [], w) (of_items p i vs)
element_in p i no_items j n w e h = absurd (none-some w h)
element_in p i (item v vs) zero n w e h =
    let same : n ≡ i = omega (arith, e) in
    inl (ap₂ (λ (m : ℕ) (u : Json). (p ++ index_token m ∷ [], u)) same (sym (same_Some v w h)))
element_in p i (item v vs) (suc j) n w e h =
    inr (in_right (p ++ index_token n ∷ [], w) (inside (p ++ index_token i ∷ []) v) (of_items p (suc i) vs)
    (element_in p (suc i) vs j n w (omega (arith, e)) h))

-- the member of a name
member_found : (p : Pointer) (k t : List ℕ) (v w : Json) (ms : Members) (test : Bool) → same_word t k ≡ test
    → cond test (Some v) (lookup t ms) ≡ Some w
    → (lookup t ms ≡ Some w → IsIn (p ++ t ∷ [], w) (of_members p ms))
    → IsIn (p ++ t ∷ [], w) (of_members p (member k v ms))
member_found p k t v w ms true e h later =
    inl (ap₂ (λ (n : List ℕ) (u : Json). (p ++ n ∷ [], u)) (same_word-true t k e) (sym (same_Some v w h)))
member_found p k t v w ms false e h later =
    inr (in_right (p ++ t ∷ [], w) (inside (p ++ k ∷ []) v) (of_members p ms) (later h))

member_in : (p : Pointer) (t : List ℕ) (ms : Members) (w : Json) → lookup t ms ≡ Some w
    → IsIn (p ++ t ∷ [], w) (of_members p ms)
member_in p t no_members w h = absurd (none-some w h)
member_in p t (member k v ms) w h = member_found p k t v w ms (same_word t k) refl h (member_in p t ms w)

item_found : (p : Pointer) (t : List ℕ) (vs : Items) (w : Json) (at : Option ℕ) → index_of t ≡ at
    → option_and_then (slice_get (elements vs)) at ≡ Some w → IsIn (p ++ t ∷ [], w) (of_items p 0 vs)
item_found p t vs w None e h = absurd (none-some w h)
item_found p t vs w (Some j) e h =
    subst (λ u. IsIn (p ++ u ∷ [], w) (of_items p 0 vs)) (sym (index_token-of t j e))
    (element_in p 0 vs j j w (omega arith) h)

child_in : (p : Pointer) (t : List ℕ) (v w : Json) → child_at t v ≡ Some w → IsIn (p ++ t ∷ [], w) (inside p v)
child_in p t null w h = absurd (none-some w h)
child_in p t (boolean b) w h = absurd (none-some w h)
child_in p t (number n) w h = absurd (none-some w h)
child_in p t not_whole w h = absurd (none-some w h)
child_in p t (string s) w h = absurd (none-some w h)
child_in p t (array vs) w h = item_found p t vs w (index_of t) refl h
child_in p t (object ms) w h = member_in p t ms w h

deeper : (p : Pointer) (t : List ℕ) (q : Pointer) (v w : Json) (c : Option Json) → child_at t v ≡ c
    → option_and_then (value_at q) c ≡ Some w
    → ((u : Json) → value_at q u ≡ Some w → IsIn ((p ++ t ∷ []) ++ q, w) (values_from (p ++ t ∷ []) u))
    → IsIn (p ++ t ∷ q, w) (values_from p v)
deeper p t q v w None e h below = absurd (none-some w h)
deeper p t q v w (Some u) e h below =
    subst (λ r. IsIn (r, w) (values_from p v)) (append_assoc p (t ∷ []) q)
    (values_values p v (p ++ t ∷ []) u ((p ++ t ∷ []) ++ q, w) (inr (child_in p t v u e)) (below u h))

pub value_in : (q p : Pointer) (v w : Json) → value_at q v ≡ Some w → IsIn (p ++ q, w) (values_from p v)
value_in [] p v w h = inl (ap₂ (λ (r : Pointer) (u : Json). (r, u)) (append-nil p) (sym (same_Some v w h)))
value_in (t ∷ q) p v w h = deeper p t q v w (child_at t v) refl h (λ u. value_in q (p ++ t ∷ []) u w)

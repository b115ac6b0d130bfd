-- Where names differ, a value among the values of a file is the one at its pointer; so a pointer has one value.
use Rattle.std.proofs.Common.{◌≡◌, ℕ, suc, ◌+◌, List, [], ◌∷◌, ◌++◌, inl, inr, ⊎_elim, Bool, true, false, ◌&&◌, cond, Some, is_none, option_and_then, slice_get, refl, sym, ap, ap₂, subst, ◌∙◌, arith, append_assoc, append-nil, true≢false}
use Rattle.std.proofs.lemmas.Bool.{and_parts}
use Rattle.std.proofs.lemmas.Option.{same_Some}
use Rattle.documents.specs.Tests.{same_word}
use Rattle.documents.specs.Json.{Json, null, boolean, number, not_whole, string, array, object, Items, no_items, item, Members, no_members, member, lookup, elements}
use Rattle.documents.specs.Place.{index_of, child_at, value_at}
use Rattle.schemas.specs.Places.{Pointer, Place, index_token}
use Rattle.list_laws.specs.In.{IsIn}
use Rattle.schema_laws.specs.Values.{inside, of_items, of_members, values_from, names_differ, names_differ_in, members_differ}
use Rattle.schema_laws.proofs.Tokens.{index_of-token}
use Rattle.list_laws.proofs.Lists.{from_append}
use Rattle.list_laws.proofs.Tests.{same_word-refl, same_word-true}

-- the place lies below p, at what a pointer leads to in v
record IsBelow (p : Pointer) (v : Json) (c : Place) : Type 0 where
  way : Pointer
  is : c.0 ≡ p ++ way
  leads : value_at way v ≡ Some c.1

-- from a child of v to v
up : (p : Pointer) (t : List ℕ) (v u : Json) (c : Place) → child_at t v ≡ Some u
    → IsBelow (p ++ t ∷ []) u c → IsBelow p v c
up p t v u c e b = record {
  way = t ∷ b.way;
  is = b.is ∙ append_assoc p (t ∷ []) b.way;
  leads = ap (option_and_then (value_at b.way)) e ∙ b.leads;
}

itself : (p : Pointer) (v : Json) (c : Place) → c ≡ (p, v) → IsBelow p v c
itself p v c e = record {
  way = [];
  is = ap (λ z. z.0) e ∙ sym (append-nil p);
  leads = ap (λ z. Some z.1) (sym e);
}

-- an element of a list of which the first `before` are left out
record IsAtItem (p : Pointer) (before : ℕ) (vs : Items) (c : Place) : Type 0 where
  at : ℕ
  value : Json
  element : slice_get (elements vs) at ≡ Some value
  below : IsBelow (p ++ index_token (before + at) ∷ []) value c

later_item : (p : Pointer) (i : ℕ) (v : Json) (vs : Items) (c : Place) → IsAtItem p (suc i) vs c
    → IsAtItem p i (item v vs) c
later_item p i v vs c h = record {
  at = suc h.at;
  value = h.value;
  element = h.element;
  below = let same : suc i + h.at ≡ i + suc h.at = omega arith in
      subst (λ n. IsBelow (p ++ index_token n ∷ []) h.value c) same h.below;
}

first_item : (p : Pointer) (i : ℕ) (v : Json) (vs : Items) (c : Place) → IsBelow (p ++ index_token i ∷ []) v c
    → IsAtItem p i (item v vs) c
first_item p i v vs c h = record {
  at = 0;
  value = v;
  element = refl;
  below = let same : i ≡ i + 0 = omega arith in subst (λ n. IsBelow (p ++ index_token n ∷ []) v c) same h;
}

record IsAtMember (p : Pointer) (ms : Members) (c : Place) : Type 0 where
  name : List ℕ
  value : Json
  found : lookup name ms ≡ Some value
  below : IsBelow (p ++ name ∷ []) value c

other_name : (k t : List ℕ) (v u : Json) (ms : Members) (test : Bool) → same_word t k ≡ test
    → is_none (lookup k ms) ≡ true
    → lookup t ms ≡ Some u → cond test (Some v) (lookup t ms) ≡ Some u
other_name k t v u ms false e h f = f
other_name k t v u ms true e h f =
    absurd (true≢false (sym h ∙ ap is_none (ap (λ w. lookup w ms) (sym (same_word-true t k e)) ∙ f)))

later_member : (p : Pointer) (k : List ℕ) (v : Json) (ms : Members) (c : Place) → is_none (lookup k ms) ≡ true
    → IsAtMember p ms c → IsAtMember p (member k v ms) c
later_member p k v ms c h m = record {
  name = m.name;
  value = m.value;
  found = other_name k m.name v m.value ms (same_word m.name k) refl h m.found;
  below = m.below;
}

first_member : (p : Pointer) (k : List ℕ) (v : Json) (ms : Members) (c : Place) → same_word k k ≡ true
    → IsBelow (p ++ k ∷ []) v c → IsAtMember p (member k v ms) c
first_member p k v ms c e h = record {
  name = k;
  value = v;
  found = ap (λ b. cond b (Some v) (lookup k ms)) e;
  below = h;
}

mutual
  below_inside : (p : Pointer) (v : Json) (c : Place) → names_differ v ≡ true → IsIn c (inside p v) → IsBelow p v c
  below_inside p null c d h = absurd h
  below_inside p (boolean b) c d h = absurd h
  below_inside p (number n) c d h = absurd h
  below_inside p not_whole c d h = absurd h
  below_inside p (string s) c d h = absurd h
  below_inside p (array vs) c d h =
      let a = below_items p 0 vs c d h in
      let token : child_at (index_token (0 + a.at)) (array vs) ≡ Some a.value =
      let same : 0 + a.at ≡ a.at = omega arith in
      ap (λ n. option_and_then (slice_get (elements vs)) (index_of (index_token n))) same
      ∙ ap (option_and_then (slice_get (elements vs))) (index_of-token a.at) ∙ a.element in
      up p (index_token (0 + a.at)) (array vs) a.value c token a.below
  below_inside p (object ms) c d h =
      let m = below_members p ms c d h in up p m.name (object ms) m.value c m.found m.below

  below_items : (p : Pointer) (i : ℕ) (vs : Items) (c : Place) → names_differ_in vs ≡ true → IsIn c (of_items p i vs)
      → IsAtItem p i vs c
  below_items p i no_items c d h = absurd h
  below_items p i (item v vs) c d (inl e) = first_item p i v vs c (itself (p ++ index_token i ∷ []) v c e)
  below_items p i (item v vs) c d (inr h) =
      let both = and_parts (names_differ v) (names_differ_in vs) d in ⊎_elim
      (λ l. first_item p i v vs c (below_inside (p ++ index_token i ∷ []) v c both.0 l))
      (λ r. later_item p i v vs c (below_items p (suc i) vs c both.1 r))
      (from_append c (inside (p ++ index_token i ∷ []) v) (of_items p (suc i) vs) h)

  below_members : (p : Pointer) (ms : Members) (c : Place) → members_differ ms ≡ true → IsIn c (of_members p ms)
      → IsAtMember p ms c
  below_members p no_members c d h = absurd h
  below_members p (member k v ms) c d (inl e) =
      first_member p k v ms c (same_word-refl k) (itself (p ++ k ∷ []) v c e)
  below_members p (member k v ms) c d (inr h) =
      let both = and_parts (is_none (lookup k ms)) (names_differ v && members_differ ms) d in
      let rest = and_parts (names_differ v) (members_differ ms) both.1 in ⊎_elim
      (λ l. first_member p k v ms c (same_word-refl k) (below_inside (p ++ k ∷ []) v c rest.0 l))
      (λ r. later_member p k v ms c both.0 (below_members p ms c rest.1 r))
      (from_append c (inside (p ++ k ∷ []) v) (of_members p ms) h)

pub value_at-in : (root : Json) (c : Place) → names_differ root ≡ true → IsIn c (values_from [] root)
    → value_at c.0 root ≡ Some c.1
value_at-in root c d h =
    let b = below h in subst (λ p. value_at p root ≡ Some c.1) (sym b.is) b.leads
  where
    below : IsIn c (values_from [] root) → IsBelow [] root c
    below (inl e) = itself [] root c e
    below (inr k) = below_inside [] root c d k

-- a pointer has one value
pub one_value : (root : Json) (c d : Place) → names_differ root ≡ true → IsIn c (values_from [] root)
    → IsIn d (values_from [] root) → c.0 ≡ d.0 → c ≡ d
one_value root c d h j k e =
    let same = same_Some c.1 d.1
    (sym (value_at-in root c h j) ∙ ap (λ p. value_at p root) e ∙ value_at-in root d h k) in
    ap₂ (λ (p : Pointer) (v : Json). (p, v)) e same

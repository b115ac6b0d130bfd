-- Whatever a place of a file leads to is a value of the file, at its place.
use Rattle.std.proofs.Common.{◌≡◌, ℕ, suc, List, [], ◌∷◌, ◌++◌, ◌⊎◌, inl, inr, ⊎_elim, Option, Some, None, Result, Ok, Err, codes, refl, sym, subst}
use Rattle.documents.specs.Json.{Json, null, boolean, number, not_whole, string, array, object, Items, no_items, item, Members, no_members, member, lookup}
use Rattle.documents.specs.Place.{value_at}
use Rattle.schemas.specs.Places.{Pointer, Place, index_token, elements_under}
use Rattle.schemas.specs.Keyword.{Shape, TypeWords, AnyValues, AnyValue, WholeNumber, PositiveNumber, Count, PatternWord, Words, Schema, SchemaOrList, SchemaList, SchemaMap, PatternMap, NeedMap, Flag, read_shape}
use Rattle.schemas.specs.SubSchemas.{in_list, in_list_or_one, members_under, in_map, unless_list, needs_under, in_needs, in_value, in_member, in_members}
use Rattle.schemas.specs.Fault.{Rules}
use Rattle.schemas.specs.Walk.{root_id, place_with, place_of, referred, object_children, children}
use Rattle.list_laws.specs.In.{IsIn}
use Rattle.schema_laws.specs.Values.{inside, of_items, of_members, values_from}
use Rattle.list_laws.proofs.Lists.{in_left, in_right, from_append}
use Rattle.schema_laws.proofs.ValuesLaws.{values_values, value_in}

elements-in : (c : Place) (p : Pointer) (i : ℕ) (vs : Items) → IsIn c (elements_under p i vs) → IsIn c (of_items p i vs)
elements-in c p i no_items h = absurd h
elements-in c p i (item v vs) (inl e) = inl e
elements-in c p i (item v vs) (inr h) =
    inr (in_right c (inside (p ++ index_token i ∷ []) v) (of_items p (suc i) vs) (elements-in c p (suc i) vs h))

members-in : (c : Place) (p : Pointer) (ms : Members) → IsIn c (members_under p ms) → IsIn c (of_members p ms)
members-in c p no_members h = absurd h
members-in c p (member k v ms) (inl e) = inl e
members-in c p (member k v ms) (inr h) =
    inr (in_right c (inside (p ++ k ∷ []) v) (of_members p ms) (members-in c p ms h))

unless_list-in : (c : Place) (p : Pointer) (v : Json) (cs : List Place) → IsIn c (unless_list p v cs)
    → (c ≡ (p, v)) ⊎ IsIn c cs
unless_list-in c p null cs h = h
unless_list-in c p (boolean b) cs h = h
unless_list-in c p (number n) cs h = h
unless_list-in c p not_whole cs h = h
unless_list-in c p (string s) cs h = h
unless_list-in c p (array vs) cs h = inr h
unless_list-in c p (object ms) cs h = h

needs-in : (c : Place) (p : Pointer) (ms : Members) → IsIn c (needs_under p ms) → IsIn c (of_members p ms)
needs-in c p no_members h = absurd h
needs-in c p (member k v ms) h = ⊎_elim (λ e. inl e)
    (λ l. inr (in_right c (inside (p ++ k ∷ []) v) (of_members p ms) (needs-in c p ms l)))
    (unless_list-in c (p ++ k ∷ []) v (needs_under p ms) h)

in_list-in : (c : Place) (p : Pointer) (v : Json) → IsIn c (in_list p v) → IsIn c (values_from p v)
in_list-in c p (array vs) h = inr (elements-in c p 0 vs h)
in_list-in c p null h = absurd h
in_list-in c p (boolean b) h = absurd h
in_list-in c p (number n) h = absurd h
in_list-in c p not_whole h = absurd h
in_list-in c p (string s) h = absurd h
in_list-in c p (object ms) h = absurd h

itself : (c : Place) (p : Pointer) (v : Json) → IsIn c ((p, v) ∷ []) → IsIn c (values_from p v)
itself c p v (inl e) = inl e
itself c p v (inr h) = absurd h

in_list_or_one-in : (c : Place) (p : Pointer) (v : Json) → IsIn c (in_list_or_one p v) → IsIn c (values_from p v)
in_list_or_one-in c p (array vs) h = inr (elements-in c p 0 vs h)
in_list_or_one-in c p null h = itself c p null h
in_list_or_one-in c p (boolean b) h = itself c p (boolean b) h
in_list_or_one-in c p (number n) h = itself c p (number n) h
in_list_or_one-in c p not_whole h = itself c p not_whole h
in_list_or_one-in c p (string s) h = itself c p (string s) h
in_list_or_one-in c p (object ms) h = itself c p (object ms) h

in_map-in : (c : Place) (p : Pointer) (v : Json) → IsIn c (in_map p v) → IsIn c (values_from p v)
in_map-in c p (object ms) h = inr (members-in c p ms h)
in_map-in c p null h = absurd h
in_map-in c p (boolean b) h = absurd h
in_map-in c p (number n) h = absurd h
in_map-in c p not_whole h = absurd h
in_map-in c p (string s) h = absurd h
in_map-in c p (array vs) h = absurd h

in_needs-in : (c : Place) (p : Pointer) (v : Json) → IsIn c (in_needs p v) → IsIn c (values_from p v)
in_needs-in c p (object ms) h = inr (needs-in c p ms h)
in_needs-in c p null h = absurd h
in_needs-in c p (boolean b) h = absurd h
in_needs-in c p (number n) h = absurd h
in_needs-in c p not_whole h = absurd h
in_needs-in c p (string s) h = absurd h
in_needs-in c p (array vs) h = absurd h

in_value-in : (c : Place) (S : Shape) (p : Pointer) (v : Json) → IsIn c (in_value S p v) → IsIn c (values_from p v)
in_value-in c Schema p v h = itself c p v h
in_value-in c SchemaOrList p v h = in_list_or_one-in c p v h
in_value-in c SchemaList p v h = in_list-in c p v h
in_value-in c SchemaMap p v h = in_map-in c p v h
in_value-in c PatternMap p v h = in_map-in c p v h
in_value-in c NeedMap p v h = in_needs-in c p v h
in_value-in c TypeWords p v h = absurd h
in_value-in c AnyValues p v h = absurd h
in_value-in c AnyValue p v h = absurd h
in_value-in c WholeNumber p v h = absurd h
in_value-in c PositiveNumber p v h = absurd h
in_value-in c Count p v h = absurd h
in_value-in c PatternWord p v h = absurd h
in_value-in c Words p v h = absurd h
in_value-in c Flag p v h = absurd h

in_member-in : (c : Place) (S : Option Shape) (p : Pointer) (v : Json) → IsIn c (in_member S p v)
    → IsIn c (values_from p v)
in_member-in c None p v h = absurd h
in_member-in c (Some S) p v h = in_value-in c S p v h

in_members-in : (c : Place) (ms : Members) (p : Pointer) (rest : Members) → IsIn c (in_members ms p rest)
    → IsIn c (of_members p rest)
in_members-in c ms p no_members h = absurd h
in_members-in c ms p (member k v rest) h = ⊎_elim
    (λ l. in_left c (values_from (p ++ k ∷ []) v) (of_members p rest)
    (in_member-in c (read_shape ms k) (p ++ k ∷ []) v l))
    (λ r. in_right c (values_from (p ++ k ∷ []) v) (of_members p rest) (in_members-in c ms p rest r))
    (from_append c (in_member (read_shape ms k) (p ++ k ∷ []) v) (in_members ms p rest) h)

module _ {P R : Type 0} (rules : Rules P R) (root : Json) where
  place_with-in : (c : Place) (p : Pointer) (v : Option Json) → value_at p root ≡ v → IsIn c (place_with p v)
      → IsIn c (values_from [] root)
  place_with-in c p None e h = absurd h
  place_with-in c p (Some v) e (inl same) =
      subst (λ z. IsIn z (values_from [] root)) (sym same) (value_in p [] root v e)
  place_with-in c p (Some v) e (inr h) = absurd h

  place_of-in : (c : Place) (to : Result Pointer R) → IsIn c (place_of root to) → IsIn c (values_from [] root)
  place_of-in c (Ok p) h = place_with-in c p (value_at p root) refl h
  place_of-in c (Err e) h = absurd h

  referred-in : (c : Place) (v : Json) → IsIn c (referred rules root v) → IsIn c (values_from [] root)
  referred-in c (string w) h = place_of-in c (rules.target root w (root_id root)) h
  referred-in c null h = absurd h
  referred-in c (boolean b) h = absurd h
  referred-in c (number n) h = absurd h
  referred-in c not_whole h = absurd h
  referred-in c (array vs) h = absurd h
  referred-in c (object ms) h = absurd h

  object-in : (c : Place) (r : Option Json) (p : Pointer) (ms : Members) → IsIn (p, object ms) (values_from [] root)
      → IsIn c (object_children rules root r p ms) → IsIn c (values_from [] root)
  object-in c (Some v) p ms h k = referred-in c v k
  object-in c None p ms h k = values_values [] root p (object ms) c h (inr (in_members-in c ms p ms k))

  -- the places to which a place of the file leads are places of the file
  pub children-in : (c d : Place) → IsIn c (values_from [] root) → IsIn d (children rules root c)
      → IsIn d (values_from [] root)
  children-in (p, object ms) d h k = object-in d (lookup (codes "$ref") ms) p ms h k
  children-in (p, null) d h k = absurd k
  children-in (p, boolean b) d h k = absurd k
  children-in (p, number n) d h k = absurd k
  children-in (p, not_whole) d h k = absurd k
  children-in (p, string s) d h k = absurd k
  children-in (p, array vs) d h k = absurd k

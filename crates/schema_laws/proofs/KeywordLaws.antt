-- Where the schemas in a keyword's value are among the places of a schema. With it a keyword that is given by entries
-- has the meaning of its value.
use Rattle.std.proofs.Common.{◌≡◌, ℕ, List, [], ◌∷◌, ◌++◌, Bool, true, false, cond, inl, Some, None, Ok, codes, slice_get, refl, sym, subst}
use Rattle.std.proofs.lemmas.Option.{none-some, same_Some}
use Rattle.documents.specs.Tests.{same_word}
use Rattle.documents.specs.Json.{Json, string, object, Members, no_members, member, lookup}
use Rattle.documents.specs.Place.{value_at}
use Rattle.schemas.specs.Places.{Pointer, Place}
use Rattle.schemas.specs.Keyword.{read_shape}
use Rattle.schemas.specs.SubSchemas.{in_member, in_members}
use Rattle.schemas.specs.Fault.{Rules}
use Rattle.schemas.specs.Walk.{root_id, place_of, place_with, object_children, children, places}
use Rattle.schemas.specs.Entries.{number_of}
use Rattle.list_laws.specs.In.{IsIn}
use Rattle.schema_laws.specs.Values.{names_differ}
use Rattle.list_laws.proofs.Lists.{in_left, in_right}
use Rattle.schema_laws.proofs.Numbers.{child_at_number}
use Rattle.list_laws.proofs.Tests.{same_word-true}

member_found : (ms : Members) (p : Pointer) (n k : List ℕ) (w v : Json) (rest : Members) (d : Place) (test : Bool)
    → same_word k n ≡ test → cond test (Some w) (lookup k rest) ≡ Some v
    → IsIn d (in_member (read_shape ms k) (p ++ k ∷ []) v)
    → (lookup k rest ≡ Some v → IsIn d (in_members ms p rest)) → IsIn d (in_members ms p (member n w rest))
member_found ms p n k w v rest d true e h i later =
    let same = same_word-true k n e in
    let here = subst (λ u. IsIn d (in_member (read_shape ms k) (p ++ k ∷ []) u)) (sym (same_Some w v h)) i in
    in_left d (in_member (read_shape ms n) (p ++ n ∷ []) w) (in_members ms p rest)
    (subst (λ m. IsIn d (in_member (read_shape ms m) (p ++ m ∷ []) w)) same here)
member_found ms p n k w v rest d false e h i later =
    in_right d (in_member (read_shape ms n) (p ++ n ∷ []) w) (in_members ms p rest) (later h)

keyword_in : (ms : Members) (p : Pointer) (rest : Members) (k : List ℕ) (v : Json) (d : Place) → lookup k rest ≡ Some v
    → IsIn d (in_member (read_shape ms k) (p ++ k ∷ []) v) → IsIn d (in_members ms p rest)
keyword_in ms p no_members k v d h i = absurd (none-some v h)
keyword_in ms p (member n w rest) k v d h i =
    member_found ms p n k w v rest d (same_word k n) refl h i (λ later. keyword_in ms p rest k v d later i)

module _ {P R : Type 0} (rules : Rules P R) (root : Json) where
  -- what lies in a keyword's value is a child, where the object has no reference
  pub keyword-children : (p : Pointer) (ms : Members) (k : List ℕ) (v : Json) (d : Place)
      → lookup (codes "$ref") ms ≡ None → lookup k ms ≡ Some v
      → IsIn d (in_member (read_shape ms k) (p ++ k ∷ []) v) → IsIn d (children rules root (p, object ms))
  keyword-children p ms k v d none h i =
      subst (λ o. IsIn d (object_children rules root o p ms)) (sym none) (keyword_in ms p ms k v d h i)

  -- and its number leads to it
  pub keyword-number : (p : Pointer) (ms : Members) (k : List ℕ) (v : Json) (d : Place) → names_differ root ≡ true
      → IsIn (p, object ms) (places rules root) → lookup (codes "$ref") ms ≡ None → lookup k ms ≡ Some v
      → IsIn d (in_member (read_shape ms k) (p ++ k ∷ []) v)
      → slice_get (places rules root) (number_of (places rules root) d.0) ≡ Some d
  keyword-number p ms k v d differ at none h i =
      child_at_number rules root (p, object ms) d differ at (keyword-children p ms k v d none h i)

  -- the number of a reference's target leads to the target
  pub reference-number : (p q : Pointer) (ms : Members) (w : List ℕ) (v : Json) → names_differ root ≡ true
      → IsIn (p, object ms) (places rules root) → lookup (codes "$ref") ms ≡ Some (string w)
      → rules.target root w (root_id root) ≡ Ok q → value_at q root ≡ Some v
      → slice_get (places rules root) (number_of (places rules root) q) ≡ Some (q, v)
  reference-number p q ms w v differ at h to is =
      child_at_number rules root (p, object ms) (q, v) differ at
      (subst (λ o. IsIn (q, v) (object_children rules root o p ms)) (sym h)
      (subst (λ t. IsIn (q, v) (place_of root t)) (sym to)
      (subst (λ u. IsIn (q, v) (place_with q u)) (sym is) (inl refl))))

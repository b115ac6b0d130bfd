-- Where the number of a place leads.
use Rattle.std.proofs.Common.{◌≡◌, zero, suc, ◌<◌, List, [], ◌∷◌, length, inl, inr, Bool, true, false, ◌||◌, cond, Some, slice_get, refl, sym, ap, ◌∙◌, arith, true≢false}
use Rattle.documents.specs.Json.{Json}
use Rattle.schemas.specs.Places.{Pointer, Place, same_pointer, has_place}
use Rattle.schemas.specs.Fault.{Rules}
use Rattle.schemas.specs.Walk.{children, places}
use Rattle.schemas.specs.Entries.{number_of}
use Rattle.list_laws.specs.In.{IsIn}
use Rattle.schema_laws.specs.Values.{names_differ}
use Rattle.schema_laws.proofs.Pointers.{same_pointer-eq}
use Rattle.schema_laws.proofs.ChildrenLaws.{children-in}
use Rattle.schema_laws.proofs.ValueAt.{one_value}
use Rattle.schema_laws.proofs.Walks.{all_places}

-- the place with the pointer p that comes first
record IsFound (cs : List Place) (p : Pointer) : Type 0 where
  place : Place
  pointer : place.0 ≡ p
  at : slice_get cs (number_of cs p) ≡ Some place
  among : IsIn place cs
  below : number_of cs p < length cs

found_next : (c : Place) (cs : List Place) (p : Pointer) (test : Bool) → same_pointer p c.0 ≡ test
    → (test || has_place cs p) ≡ true → (has_place cs p ≡ true → IsFound cs p) → IsFound (c ∷ cs) p
found_next c cs p true e h later = record {
  place = c;
  pointer = sym (same_pointer-eq p c.0 e);
  at = ap (λ b. slice_get (c ∷ cs) (cond b zero (suc (number_of cs p)))) e;
  among = inl refl;
  below = let first : number_of (c ∷ cs) p ≡ 0 = ap (λ b. cond b zero (suc (number_of cs p))) e in omega (arith, first);
}
found_next c cs p false e h later =
    let f = later h in record {
      place = f.place;
      pointer = f.pointer;
      at = ap (λ b. slice_get (c ∷ cs) (cond b zero (suc (number_of cs p)))) e ∙ f.at;
      among = inr f.among;
      below = let next : number_of (c ∷ cs) p ≡ suc (number_of cs p) = ap (λ b. cond b zero (suc (number_of cs p))) e in
          let less = f.below in omega (arith, next, less);
    }

found : (cs : List Place) (p : Pointer) → has_place cs p ≡ true → IsFound cs p
found [] p h = absurd (true≢false (sym h))
found (c ∷ cs) p h = found_next c cs p (same_pointer p c.0) refl h (found cs p)

-- the number of a place that is there is below the number of places
pub number_of-below : (cs : List Place) (p : Pointer) → has_place cs p ≡ true → number_of cs p < length cs
number_of-below cs p h = let f = found cs p h in f.below

module _ {P R : Type 0} (rules : Rules P R) (root : Json) where
  -- the number of what a place leads to is its number among all places
  pub child_at_number : (c d : Place) → names_differ root ≡ true → IsIn c (places rules root)
      → IsIn d (children rules root c)
      → slice_get (places rules root) (number_of (places rules root) d.0) ≡ Some d
  child_at_number c d h j k =
      let all = all_places rules root in
      let f = found (places rules root) d.0 (all.closed c d j k) in
      let same = one_value root f.place d h (all.within f.place f.among)
      (children-in rules root c d (all.within c j) k) f.pointer in
      f.at ∙ ap Some same

-- Places with pointers that are all different.
use Rattle.std.proofs.Common.{◌≡◌, suc, ◌≤◌, List, [], ◌∷◌, ◌++◌, length, inl, inr, ⊎_elim, true, false, ◌||◌, refl, sym, ap, subst, ◌∙◌, arith, true≢false}
use Rattle.std.proofs.Math.Bool.{or_assoc}
use Rattle.std.proofs.lemmas.Bool.{or_cases, or_parts}
use Rattle.std.specs.List.{IsDistinct, AllByRecursion}
use Rattle.std.specs.Set.{is_member}
use Rattle.std.proofs.lemmas.Map.Made.{length-le_from_is_member}
use Rattle.schemas.specs.Places.{Pointer, Place, same_pointer, has_place}
use Rattle.list_laws.specs.In.{IsIn}
use Rattle.schema_laws.specs.Walking.{pointers}
use Rattle.schema_laws.proofs.Pointers.{same_pointer-eq, same_pointer-equivalence}
use Rattle.schema_laws.proofs.Members.{has_place-in}

pub has_place-member : (cs : List Place) (p : Pointer) → has_place cs p ≡ is_member same_pointer (pointers cs) p
has_place-member [] p = refl
has_place-member (c ∷ cs) p = ap (λ b. same_pointer p c.0 || b) (has_place-member cs p)

pub has_place-append : (cs ds : List Place) (p : Pointer) → has_place (cs ++ ds) p ≡ (has_place cs p || has_place ds p)
has_place-append [] ds p = refl
has_place-append (c ∷ cs) ds p =
    ap (λ b. same_pointer p c.0 || b) (has_place-append cs ds p)
    ∙ sym (or_assoc (same_pointer p c.0) (has_place cs p) (has_place ds p))

-- what is found among some places is found among others that have them all
pub has_place-all : (cs ds : List Place) (p : Pointer) → ((c : Place) → IsIn c cs → IsIn c ds) → has_place cs p ≡ true
    → has_place ds p ≡ true
has_place-all [] ds p all h = absurd (true≢false (sym h))
has_place-all (c ∷ cs) ds p all h = ⊎_elim
    (λ l. subst (λ q. has_place ds q ≡ true) (sym (same_pointer-eq p c.0 l)) (has_place-in c ds (all c (inl refl))))
    (λ r. has_place-all cs ds p (λ d k. all d (inr k)) r)
    (or_cases (same_pointer p c.0) (has_place cs p) h)

apart_more : (q p : Pointer) (ps : List Pointer) → AllByRecursion (λ y. same_pointer q y ≡ false) ps
    → same_pointer q p ≡ false → AllByRecursion (λ y. same_pointer q y ≡ false) (ps ++ p ∷ [])
apart_more q p [] h k = (k, tt)
apart_more q p (r ∷ ps) h k = (h.0, apart_more q p ps h.1 k)

distinct_more : (ps : List Pointer) (p : Pointer) → IsDistinct same_pointer ps → is_member same_pointer ps p ≡ false
    → IsDistinct same_pointer (ps ++ p ∷ [])
unfolding IsDistinct
distinct_more [] p d h = (tt, tt)
distinct_more (q ∷ ps) p d h =
    let both = or_parts (same_pointer p q) (is_member same_pointer ps p) h in
    (apart_more q p ps d.0 (same_pointer-equivalence.symm q p ∙ both.0), distinct_more ps p d.1 both.1)

pointers-append : (cs ds : List Place) → pointers (cs ++ ds) ≡ pointers cs ++ pointers ds
pointers-append [] ds = refl
pointers-append (c ∷ cs) ds = ap (λ ps. c.0 ∷ ps) (pointers-append cs ds)

pub distinct_places : (cs : List Place) (c : Place) → IsDistinct same_pointer (pointers cs) → has_place cs c.0 ≡ false
    → IsDistinct same_pointer (pointers (cs ++ c ∷ []))
distinct_places cs c d h =
    subst (IsDistinct same_pointer) (sym (pointers-append cs (c ∷ [])))
    (distinct_more (pointers cs) c.0 d (sym (has_place-member cs c.0) ∙ h))

length-pointers : (cs : List Place) → length (pointers cs) ≡ length cs
length-pointers [] = refl
length-pointers (c ∷ cs) = ap suc (length-pointers cs)

-- distinct places among others are no more than they
pub length-le_from_distinct : (cs ds : List Place) → IsDistinct same_pointer (pointers cs)
    → ((c : Place) → IsIn c cs → IsIn c ds) → length cs ≤ length ds
length-le_from_distinct cs ds d all =
    let fewer = length-le_from_is_member same_pointer-equivalence (pointers cs) (pointers ds) d
    (λ q m. sym (has_place-member ds q) ∙ has_place-all cs ds q all (has_place-member cs q ∙ m)) in
    omega (arith, fewer, length-pointers cs, length-pointers ds)

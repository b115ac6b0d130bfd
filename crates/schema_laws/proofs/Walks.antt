-- How a walk begins, goes on and ends. With these nothing else is needed of it: no count of steps, no order of places.
use Rattle.std.proofs.Common.{◌≡◌, ℕ, zero, suc, ◌-◌, ◌<◌, List, [], ◌∷◌, ◌++◌, length, ◌⊎◌, inl, inr, ⊎_elim, Bool, true, false, ◌||◌, refl, sym, ap, ap₂, subst, ◌∙◌, arith, append_assoc, append-nil, length-append, true≢false}
use Rattle.std.specs.List.{IsDistinct}
use Rattle.documents.specs.Json.{Json, count}
use Rattle.schemas.specs.Places.{Pointer, Place, same_pointer, has_place}
use Rattle.schemas.specs.Fault.{Rules}
use Rattle.schemas.specs.Walk.{children, walk, places}
use Rattle.list_laws.specs.In.{IsIn}
use Rattle.schema_laws.specs.Values.{values_from}
use Rattle.schema_laws.specs.Walking.{rest, IsWalking, AreAllPlaces}
use Rattle.schema_laws.proofs.Pointers.{same_pointer-eq}
use Rattle.list_laws.proofs.Lists.{in_left, in_right, from_append}
use Rattle.schema_laws.proofs.Members.{has_place-in}
use Rattle.schema_laws.proofs.Distinct.{has_place-append, distinct_places, length-le_from_distinct}
use Rattle.schema_laws.proofs.ValuesLaws.{length-inside}
use Rattle.schema_laws.proofs.ChildrenLaws.{children-in}

-- a place that is done needn't wait
either_done : (a b w : Bool) → (b ≡ true → a ≡ true) → (a || (b || w)) ≡ true → (a || w) ≡ true
either_done true b w f h = refl
either_done false true w f h = absurd (true≢false (sym (f refl)))
either_done false false w f h = h

-- more places wait
wider : (a b w k : Bool) → (a || (b || w)) ≡ true → ((a || (b || false)) || (k || w)) ≡ true
wider true b w k h = refl
wider false true w k h = refl
wider false false w true h = refl
wider false false w false h = h

module _ {P R : Type 0} (rules : Rules P R) (root : Json) where
  walk_done : (n : ℕ) (done : List Place) → walk rules root n done [] ≡ []
  unfolding walk
  walk_done zero done = refl
  walk_done (suc n) done = refl

  walk_skip : (n : ℕ) (done waiting : List Place) (c : Place) → has_place done c.0 ≡ true
      → walk rules root n done (c ∷ waiting) ≡ walk rules root n done waiting
  unfolding walk
  walk_skip zero done waiting c h = refl
  walk_skip (suc n) done waiting c h = rw h refl

  walk_enter : (n : ℕ) (done waiting : List Place) (c : Place) → has_place done c.0 ≡ false
      → walk rules root (suc n) done (c ∷ waiting)
      ≡ c ∷ walk rules root n (done ++ c ∷ []) (children rules root c ++ waiting)
  unfolding walk
  walk_enter n done waiting c h = rw h refl

  pub begin : IsWalking rules root [] (([], root) ∷ [])
  unfolding places IsDistinct
  begin = record {
    places_are = let all : count root ≡ count root - 0 = omega arith in
        ap (λ n. walk rules root n [] (([], root) ∷ [])) all;
    distinct = tt;
    within = λ c h. ⊎_elim (λ e. inl e) (λ k. absurd k) h;
    covers = λ c d h k. absurd h;
    covers_root = refl;
  }

  -- a place that is done is left out
  pub skip : (done waiting : List Place) (c : Place) → has_place done c.0 ≡ true
      → IsWalking rules root done (c ∷ waiting) → IsWalking rules root done waiting
  skip done waiting c h w = record {
    places_are = w.places_are ∙ ap (λ ps. done ++ ps) (walk_skip (count root - length done) done waiting c h);
    distinct = w.distinct;
    within = λ z k. w.within z (⊎_elim
        (λ l. in_left z done (c ∷ waiting) l) (λ r. in_right z done (c ∷ waiting) (inr r))
        (from_append z done waiting k));
    covers = λ z d k l. fewer d.0 (w.covers z d k l);
    covers_root = fewer [] w.covers_root;
  }
    where
      fewer : (p : Pointer) → has_place (done ++ c ∷ waiting) p ≡ true → has_place (done ++ waiting) p ≡ true
      fewer p k =
          has_place-append done waiting p
          ∙ either_done (has_place done p) (same_pointer p c.0) (has_place waiting p)
          (λ e. subst (λ q. has_place done q ≡ true) (sym (same_pointer-eq p c.0 e)) h)
          (sym (has_place-append done (c ∷ waiting) p) ∙ k)

  in_done_or_next : (done : List Place) (c z : Place) → IsIn z (done ++ c ∷ []) → IsIn z done ⊎ (z ≡ c)
  in_done_or_next done c z h =
      ⊎_elim (λ l. inl l) (λ r. ⊎_elim (λ e. inr e) (λ k. absurd k) r)
      (from_append z done (c ∷ []) h)

  in_waiting : (done waiting : List Place) (c z : Place) → IsIn z done ⊎ (z ≡ c) → IsIn z (done ++ c ∷ waiting)
  in_waiting done waiting c z (inl h) = in_left z done (c ∷ waiting) h
  in_waiting done waiting c z (inr e) = in_right z done (c ∷ waiting) (inl e)

  -- a place that isn't done yet is not the last that there could be
  pub enough : (done waiting : List Place) (c : Place) → has_place done c.0 ≡ false
      → IsWalking rules root done (c ∷ waiting) → length done < count root
  enough done waiting c h w =
      let fewer = length-le_from_distinct (done ++ c ∷ []) (values_from [] root) (distinct_places done c w.distinct h)
      (λ z k. w.within z (in_waiting done waiting c z (in_done_or_next done c z k))) in
      omega (arith, fewer, length-append done (c ∷ []), length-inside [] root)

  -- any other is done next, and what it leads to waits
  goes_on : (done waiting : List Place) (c : Place) → has_place done c.0 ≡ false → length done < count root
      → done ++ rest rules root done (c ∷ waiting)
      ≡ (done ++ c ∷ []) ++ rest rules root (done ++ c ∷ []) (children rules root c ++ waiting)
  goes_on done waiting c h less =
      let left : count root - length done ≡ suc (count root - length (done ++ c ∷ [])) =
      omega (arith, less, length-append done (c ∷ [])) in
      ap (λ n. done ++ walk rules root n done (c ∷ waiting)) left
      ∙ ap (λ ps. done ++ ps) (walk_enter (count root - length (done ++ c ∷ [])) done waiting c h)
      ∙ sym (append_assoc done (c ∷ []) (rest rules root (done ++ c ∷ []) (children rules root c ++ waiting)))

  more : (done waiting : List Place) (c : Place) (p : Pointer) → has_place (done ++ c ∷ waiting) p ≡ true
      → has_place ((done ++ c ∷ []) ++ (children rules root c ++ waiting)) p ≡ true
  more done waiting c p k =
      has_place-append (done ++ c ∷ []) (children rules root c ++ waiting) p
      ∙ ap₂ (λ a b. a || b) (has_place-append done (c ∷ []) p) (has_place-append (children rules root c) waiting p)
      ∙ wider (has_place done p) (same_pointer p c.0) (has_place waiting p) (has_place (children rules root c) p)
      (sym (has_place-append done (c ∷ waiting) p) ∙ k)

  pub enter : (done waiting : List Place) (c : Place) → has_place done c.0 ≡ false
      → IsWalking rules root done (c ∷ waiting)
      → IsWalking rules root (done ++ c ∷ []) (children rules root c ++ waiting)
  enter done waiting c h w = record {
    places_are = w.places_are ∙ goes_on done waiting c h (enough done waiting c h w);
    distinct = distinct_places done c w.distinct h;
    within = λ z k. ⊎_elim (λ l. known z (in_done_or_next done c z l))
        (λ r. ⊎_elim (λ l. children-in rules root c z (known c (inr refl)) l)
        (λ m. w.within z (in_right z done (c ∷ waiting) (inr m))) (from_append z (children rules root c) waiting r))
        (from_append z (done ++ c ∷ []) (children rules root c ++ waiting) k);
    covers = λ z d k l. covered z d (in_done_or_next done c z k) l;
    covers_root = more done waiting c [] w.covers_root;
  }
    where
      known : (z : Place) → IsIn z done ⊎ (z ≡ c) → IsIn z (values_from [] root)
      known z k = w.within z (in_waiting done waiting c z k)

      covered : (z d : Place) → IsIn z done ⊎ (z ≡ c) → IsIn d (children rules root z)
          → has_place ((done ++ c ∷ []) ++ (children rules root c ++ waiting)) d.0 ≡ true
      covered z d (inl k) l = more done waiting c d.0 (w.covers z d k l)
      covered z d (inr e) l =
          has_place-in d ((done ++ c ∷ []) ++ (children rules root c ++ waiting))
          (in_right d (done ++ c ∷ []) (children rules root c ++ waiting)
          (in_left d (children rules root c) waiting (subst (λ y. IsIn d (children rules root y)) e l)))

  -- where none waits, these are all places
  pub end : (done : List Place) → IsWalking rules root done [] → places rules root ≡ done
  end done w =
      w.places_are ∙ ap (λ ps. done ++ ps) (walk_done (count root - length done) done) ∙ append-nil done

  all_are_done : (done : List Place) → IsWalking rules root done [] → AreAllPlaces rules root done
  all_are_done done w = record {
    distinct = w.distinct;
    within = λ c h. w.within c (in_left c done [] h);
    closed = λ c d h k. subst (λ cs. has_place cs d.0 ≡ true) (append-nil done) (w.covers c d h k);
    rooted = subst (λ cs. has_place cs [] ≡ true) (append-nil done) w.covers_root;
  }

  by_test : {X : Type 0} (b : Bool) → (b ≡ true → X) → (b ≡ false → X) → X
  by_test true f g = f refl
  by_test false f g = g refl

  finish : (n : ℕ) (done waiting : List Place) → count root - length done ≡ n → IsWalking rules root done waiting
      → AreAllPlaces rules root (places rules root)
  finish n done [] e w = subst (AreAllPlaces rules root) (sym (end done w)) (all_are_done done w)
  finish zero done (c ∷ waiting) e w = by_test (has_place done c.0)
      (λ h. finish zero done waiting e (skip done waiting c h w))
      (λ h. let less = enough done waiting c h w in absurd (omega (arith, less, e)))
  finish (suc n) done (c ∷ waiting) e w = by_test (has_place done c.0)
      (λ h. finish (suc n) done waiting e (skip done waiting c h w))
      (λ h. finish n (done ++ c ∷ []) (children rules root c ++ waiting)
      (omega (arith, e, length-append done (c ∷ []))) (enter done waiting c h w))

  -- the places of a schema are all that there are: the steps that the walk is given are enough
  pub all_places : AreAllPlaces rules root (places rules root)
  all_places = finish (count root) [] (([], root) ∷ []) (omega arith) begin

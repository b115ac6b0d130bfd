-- How a schema is read along its walk: a place with a fault ends it, any other is passed.
use Rattle.std.proofs.Common.{◌≡◌, ℕ, ◌+◌, List, [], ◌∷◌, ◌++◌, true, false, Option, Some, None, refl, ap, ◌∙◌, arith}
use Rattle.documents.specs.Json.{Json}
use Rattle.schemas.specs.Places.{Place, has_place}
use Rattle.schemas.specs.Fault.{Fault, Rules, or_else}
use Rattle.schemas.specs.Walk.{children, walk, places}
use Rattle.schemas.specs.Weight.{weight}
use Rattle.schemas.specs.Reading.{fault_with, fault_after, first_fault}
use Rattle.schema_laws.specs.Walking.{IsReading, weights}
use Rattle.schema_laws.proofs.Walks as walks

or_else-assoc : {A : Type 0} (x y z : Option A) → or_else x (or_else y z) ≡ or_else (or_else x y) z
or_else-assoc None y z = refl
or_else-assoc (Some a) y z = refl

or_else-none : {A : Type 0} (x : Option A) → or_else x None ≡ x
or_else-none None = refl
or_else-none (Some a) = refl

or_else-first : {A : Type 0} (x y : Option A) (a : A) → x ≡ Some a → or_else x y ≡ Some a
or_else-first x y a h = ap (λ z. or_else z y) h

module _ {P R : Type 0} (rules : Rules P R) (root : Json) where
  pub weights-append : (cs ds : List Place) → weights (cs ++ ds) ≡ weights cs + weights ds
  weights-append [] ds = omega arith
  weights-append (c ∷ cs) ds = let h = weights-append cs ds in omega (arith, h)

  -- the first fault of places that come one after another
  pub fault_after-append : (before : ℕ) (cs ds : List Place)
      → fault_after rules root before (cs ++ ds)
      ≡ or_else (fault_after rules root before cs) (fault_after rules root (before + weights cs) ds)
  fault_after-append before [] ds =
      let same : before ≡ before + 0 = omega arith in ap (λ n. fault_after rules root n ds) same
  fault_after-append before (c ∷ cs) ds =
      let same : (before + weight c) + weights cs ≡ before + weights (c ∷ cs) = omega arith in
      ap (or_else (fault_with rules root before c)) (fault_after-append (before + weight c) cs ds)
      ∙ or_else-assoc (fault_with rules root before c) (fault_after rules root (before + weight c) cs) _
      ∙ ap (λ n. or_else (fault_after rules root before (c ∷ cs)) (fault_after rules root n ds)) same

  pub begin : IsReading rules root [] (([], root) ∷ []) 0
  begin = record { walking = walks.begin rules root; faultless = refl; weighs = refl }

  -- a place that is done is left out
  pub skip : (done waiting : List Place) (c : Place) (so_far : ℕ) → has_place done c.0 ≡ true
      → IsReading rules root done (c ∷ waiting) so_far → IsReading rules root done waiting so_far
  skip done waiting c so_far h r = record {
    walking = walks.skip rules root done waiting c h r.walking;
    faultless = r.faultless;
    weighs = r.weighs;
  }

  -- with one more place
  with_place : (done : List Place) (c : Place) (so_far : ℕ) → fault_after rules root 0 done ≡ None
      → so_far ≡ weights done
      → fault_after rules root 0 (done ++ c ∷ []) ≡ fault_with rules root so_far c
  with_place done c so_far none is =
      fault_after-append 0 done (c ∷ [])
      ∙ ap (λ f. or_else f (fault_after rules root (0 + weights done) (c ∷ []))) none
      ∙ (let same : 0 + weights done ≡ so_far = omega (arith, is) in
      ap (λ n. fault_after rules root n (c ∷ [])) same)
      ∙ or_else-none (fault_with rules root so_far c)

  -- a place without a fault is passed
  pub pass : (done waiting : List Place) (c : Place) (so_far : ℕ) → has_place done c.0 ≡ false
      → fault_with rules root so_far c ≡ None → IsReading rules root done (c ∷ waiting) so_far
      → IsReading rules root (done ++ c ∷ []) (children rules root c ++ waiting) (so_far + weight c)
  pass done waiting c so_far h none r = record {
    walking = walks.enter rules root done waiting c h r.walking;
    faultless = with_place done c so_far r.faultless r.weighs ∙ none;
    weighs = let sum = weights-append done (c ∷ []) in let is = r.weighs in omega (arith, sum, is);
  }

  -- the fault of the next place is the first fault of the schema
  pub tell : (done waiting : List Place) (c : Place) (so_far : ℕ) (f : Fault P R) → has_place done c.0 ≡ false
      → fault_with rules root so_far c ≡ Some f → IsReading rules root done (c ∷ waiting) so_far
      → first_fault rules root ≡ Some f
  tell done waiting c so_far f h some r =
      let entered = walks.enter rules root done waiting c h r.walking in
      let before = with_place done c so_far r.faultless r.weighs ∙ some in
      ap (fault_after rules root 0) entered.places_are
      ∙ fault_after-append 0 (done ++ c ∷ []) (walk rules root _ (done ++ c ∷ []) (children rules root c ++ waiting))
      ∙ or_else-first _ _ f before

  -- where no place waits, the schema has no fault, and these are its places
  pub end : (done : List Place) (so_far : ℕ) → IsReading rules root done [] so_far
      → (first_fault rules root ≡ None) × (places rules root ≡ done)
  end done so_far r =
      let all = walks.end rules root done r.walking in (ap (fault_after rules root 0) all ∙ r.faultless, all)

-- A schema without a first fault has none at any place, and isn't too heavy.
use Rattle.std.proofs.Common.{◌≡◌, ℕ, ◌+◌, ◌≤◌, List, [], ◌∷◌, inl, inr, Bool, true, false, cond, nat_lt, Option, Some, None, codes, refl, sym, ap, subst, ◌∙◌, arith}
use Rattle.std.proofs.lemmas.Option.{none-some, same_Some}
use Rattle.documents.specs.Tests.{same_word}
use Rattle.documents.specs.Json.{Json, object, Members, no_members, member, lookup}
use Rattle.schemas.specs.Places.{Pointer, Place}
use Rattle.schemas.specs.Fault.{Rules, TooLarge, or_else}
use Rattle.schemas.specs.Walk.{places}
use Rattle.schemas.specs.Weight.{weight}
use Rattle.schemas.specs.Reading.{member_fault, members_fault, object_fault, fault_at, fault_with, fault_after, first_fault}
use Rattle.list_laws.specs.In.{IsIn}
use Rattle.schema_laws.specs.Walking.{weights}
use Rattle.list_laws.proofs.Tests.{same_word-true}

-- where none of two faults is the first, there is neither
pub neither : {A : Type 0} (x y : Option A) → or_else x y ≡ None → (x ≡ None) × (y ≡ None)
neither None y h = (refl, h)
neither (Some a) y h = absurd (none-some a (sym h))

not_over : {A : Type 0} (test : Bool) (a : A) → cond test (Some a) None ≡ None → test ≡ false
not_over true a h = absurd (none-some a (sym h))
not_over false a h = refl

at_most : (m n : ℕ) → nat_lt m n ≡ false → n ≤ m
at_most m n h = grind (arith, h)

module _ {P R : Type 0} (rules : Rules P R) (root : Json) where
  faultless_among : (before : ℕ) (cs : List Place) (c : Place) → fault_after rules root before cs ≡ None → IsIn c cs
      → fault_at rules root c ≡ None
  faultless_among before [] c h i = absurd i
  faultless_among before (d ∷ cs) c h (inl e) =
      let both = neither (fault_with rules root before d) (fault_after rules root (before + weight d) cs) h in
      let first = neither (fault_at rules root d) _ both.0 in
      ap (fault_at rules root) e ∙ first.0
  faultless_among before (d ∷ cs) c h (inr i) =
      let both = neither (fault_with rules root before d) (fault_after rules root (before + weight d) cs) h in
      faultless_among (before + weight d) cs c both.1 i

  light_after : (before : ℕ) (cs : List Place) → fault_after rules root before cs ≡ None → before ≤ rules.most_weight
      → before + weights cs ≤ rules.most_weight
  light_after before [] h light = omega (arith, light)
  light_after before (c ∷ cs) h light =
      let both = neither (fault_with rules root before c) (fault_after rules root (before + weight c) cs) h in
      let last = neither (fault_at rules root c)
      (cond (nat_lt rules.most_weight (before + weight c)) (Some (TooLarge c.0)) None) both.0 in
      let fits = at_most rules.most_weight (before + weight c)
      (not_over (nat_lt rules.most_weight (before + weight c)) (TooLarge c.0) last.1) in
      let rest = light_after (before + weight c) cs both.1 fits in
      omega (arith, rest)

  pub faultless : (c : Place) → first_fault rules root ≡ None → IsIn c (places rules root)
      → fault_at rules root c ≡ None
  faultless c h i = faultless_among 0 (places rules root) c h i

  pub light : first_fault rules root ≡ None → weights (places rules root) ≤ rules.most_weight
  light h = let all = light_after 0 (places rules root) h (omega arith) in omega (arith, all)

  -- nor has any of the members of an object without a reference
  member_at : (ms : Members) (p : Pointer) (n k : List ℕ) (w v : Json) (rest : Members) (test : Bool)
      → same_word k n ≡ test → cond test (Some w) (lookup k rest) ≡ Some v
      → member_fault rules root ms p n w ≡ None
      → (lookup k rest ≡ Some v → member_fault rules root ms p k v ≡ None) → member_fault rules root ms p k v ≡ None
  member_at ms p n k w v rest true e h none later =
      ap (λ m. member_fault rules root ms p m v) (same_word-true k n e)
      ∙ ap (member_fault rules root ms p n) (sym (same_Some w v h)) ∙ none
  member_at ms p n k w v rest false e h none later = later h

  member_among : (ms : Members) (p : Pointer) (rest : Members) (k : List ℕ) (v : Json)
      → members_fault rules root ms p rest ≡ None → lookup k rest ≡ Some v → member_fault rules root ms p k v ≡ None
  member_among ms p no_members k v none h = absurd (none-some v h)
  member_among ms p (member n w rest) k v none h =
      let both = neither (member_fault rules root ms p n w) (members_fault rules root ms p rest) none in
      member_at ms p n k w v rest (same_word k n) refl h both.0 (λ later. member_among ms p rest k v both.1 later)

  pub member_faultless : (ms : Members) (p : Pointer) (k : List ℕ) (v : Json)
      → fault_at rules root (p, object ms) ≡ None → lookup (codes "$ref") ms ≡ None → lookup k ms ≡ Some v
      → member_fault rules root ms p k v ≡ None
  member_faultless ms p k v none plain h =
      member_among ms p ms k v (subst (λ r. object_fault rules root r p ms ≡ None) plain none) h

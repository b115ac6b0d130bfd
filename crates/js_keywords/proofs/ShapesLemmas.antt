-- What the shapes of values require, by the parts of the values.
use Rattle.std.proofs.Common.{◌≡◌, ℕ, suc, ◌+◌, List, [], ◌∷◌, ◌++◌, map, length, Bool, true, false, not, cond, Option, Some, None, option_map, position, refl, sym, ap, ◌∙◌, add-one, arith}
use Rattle.std.specs.List.{position_from}
use Rattle.std.proofs.lemmas.Iterator.Adapters.{position_from-zero}
use Rattle.documents.specs.Json as D
use Rattle.schemas.specs.Places.{Pointer, index_token}
use Rattle.schemas.specs.Fault.{Fault, Rules, EmptyList, WrongShape, or_else, first_failing, schema_list_fault}
use Rattle.js_json.specs.declared.fault.RefFault.{RefFault}
use Rattle.js_pattern.specs.declared.fault.PatternFault.{PatternFault}
use Rattle.js_keywords.specs.declared.fault.SchemaFault.{SchemaFault}
use Rattle.js_keywords.specs.declared.fault.SchemaFault.TheVariants as S
use Rattle.js_keywords.specs.FaultView.{Tells}
use Rattle.js_keywords.specs.Failing.{failing}

module _ {P R : Type 0} (rules : Rules P R) (k : List ℕ) (q : Pointer) where
  pub schema_list_fault-empty : (l : D.Items) → length (D.elements l) ≡ 0
      → schema_list_fault rules k q (D.array l) ≡ Some (EmptyList q)
  schema_list_fault-empty D.no_items h = refl
  schema_list_fault-empty (D.item v vs) h = absurd (omega (arith, h))

  pub schema_list_fault-filled : (l : D.Items) → (length (D.elements l) ≡ 0 → ⊥)
      → schema_list_fault rules k q (D.array l) ≡ None
  schema_list_fault-filled D.no_items h = absurd (h refl)
  schema_list_fault-filled (D.item v vs) h = refl

pub ruleset filled_lists = (schema_list_fault-empty, schema_list_fault-filled)

-- what `position` finds
failing-position : {J : Type 0} (test : D.Json → Bool) (view : J → D.Json) (i : ℕ) (vs : List J)
    → position_from (λ v. not (test (view v))) i vs ≡ failing test i (D.items_of (map view vs))
failing-position test view i [] = refl
failing-position test view i (v ∷ vs) =
    either (test (view v)) (position_from (λ v. not (test (view v))) (i + 1) vs)
    ∙ ap (λ o. cond (test (view v)) o (Some i))
    (failing-position test view (i + 1) vs ∙ ap (λ n. failing test n (D.items_of (map view vs))) (add-one i))
  where
    either : (b : Bool) (o : Option ℕ) → cond (not b) (Some i) o ≡ cond b o (Some i)
    either true o = refl
    either false o = refl

-- the place of the first element whose view fails a test is that of the first item that fails it
pub position-failing : {J : Type 0} (test : D.Json → Bool) (view : J → D.Json) (vs : List J)
    → position (λ v. not (test (view v))) vs ≡ failing test 0 (D.items_of (map view vs))
position-failing test view vs =
    position_from-zero (λ v. not (test (view v))) vs ∙ failing-position test view 0 vs

first_failing-failing : (test : D.Json → Bool) (q : Pointer) (i : ℕ) (vs : D.Items)
    → first_failing test q i vs ≡ option_map (λ n. q ++ index_token n ∷ []) (failing test i vs)
first_failing-failing test q i D.no_items = refl
first_failing-failing test q i (D.item v vs) =
    ap (λ o. cond (test v) o (Some (q ++ index_token i ∷ []))) (first_failing-failing test q (suc i) vs)
    ∙ either (test v) (failing test (suc i) vs)
  where
    either : (b : Bool) (o : Option ℕ)
        → cond b (option_map (λ n. q ++ index_token n ∷ []) o) (Some (q ++ index_token i ∷ []))
        ≡ option_map (λ n. q ++ index_token n ∷ []) (cond b o (Some i))
    either true o = refl
    either false o = refl

-- the fault of a list, by the element that fails first
told : {P R : Type 0} → List ℕ → Pointer → Option ℕ → Option (Fault P R)
told k q None = None
told k q (Some n) = Some (WrongShape k (q ++ index_token n ∷ []))

list_fault : {P R : Type 0} (test : D.Json → Bool) (k : List ℕ) (q : Pointer) (vs : D.Items) (o : Option ℕ)
    → failing test 0 vs ≡ o
    → option_map {U = Fault P R} (WrongShape k) (first_failing test q 0 vs) ≡ told {P = P} {R = R} k q o
unfolding told
list_fault {P = P} {R = R} test k q vs o h =
    ap (option_map {U = Fault P R} (WrongShape k))
    (first_failing-failing test q 0 vs ∙ ap (option_map (λ n. q ++ index_token n ∷ [])) h) ∙ both o
  where
    both : (p : Option ℕ) → option_map {U = Fault P R} (WrongShape k) (option_map (λ n. q ++ index_token n ∷ []) p)
        ≡ told {P = P} {R = R} k q p
    both None = refl
    both (Some n) = refl

pub list_fault-none : {P R : Type 0} (test : D.Json → Bool) (k : List ℕ) (q : Pointer) (vs : D.Items) (o : Option ℕ)
    → o ≡ failing test 0 vs → o ≡ None
    → option_map {U = Fault P R} (WrongShape k) (first_failing test q 0 vs) ≡ None
unfolding told
list_fault-none test k q vs o h e = list_fault test k q vs None (sym h ∙ e)

pub list_fault-some : {P R : Type 0} (test : D.Json → Bool) (k : List ℕ) (q p : Pointer) (vs : D.Items) (o : Option ℕ)
    (n : ℕ) → o ≡ failing test 0 vs → o ≡ Some n → p ≡ q ++ index_token n ∷ []
    → option_map {U = Fault P R} (WrongShape k) (first_failing test q 0 vs) ≡ Some (WrongShape k p)
unfolding told
list_fault-some test k q p vs o n h e at =
    list_fault test k q vs (Some n) (sym h ∙ e) ∙ ap (λ r. Some (WrongShape k r)) (sym at)

-- ---- the first of several faults

pub tells_first : (owed rest : Option (Fault PatternFault RefFault)) (f : SchemaFault) → Tells owed f
    → Tells (or_else owed rest) f
tells_first owed rest S.Memory h = tt
tells_first owed rest _ h = ap (λ o. or_else o rest) h

pub ruleset first_faults = (tells_first)

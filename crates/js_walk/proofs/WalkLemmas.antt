-- One step of the walk, as the program makes it.
use Rattle.std.proofs.Common.{◌≡◌, ℕ, ◌-◌, ◌<◌, List, [], ◌∷◌, ◌++◌, length, Bool, true, false, cond, Option, Some, None, refl, sym, ap, subst, ◌∙◌, arith, length-append}
use Rattle.std.proofs.lemmas.Option.{none-some, same_Some}
use Rattle.documents.specs.Json.{Json, count}
use Rattle.schemas.specs.Places.{Pointer, Place, has_place}
use Rattle.schemas.specs.Fault.{Fault}
use Rattle.schemas.specs.Walk.{next_of, children, places}
use Rattle.schemas.specs.Reading.{fault_with, first_fault}
use Rattle.schema_laws.specs.Walking.{IsReading}
use Rattle.schema_laws.proofs.Readings as readings
use Rattle.schema_laws.proofs.Walks as walks
use Rattle.js_json.specs.declared.fault.RefFault.{RefFault}
use Rattle.js_pattern.specs.declared.fault.PatternFault.{PatternFault}
use Rattle.js_keywords.specs.declared.fault.SchemaFault.{SchemaFault}
use Rattle.js_keywords.specs.declared.fault.SchemaFault.TheVariants as S
use Rattle.js_keywords.specs.FaultView.{Tells}
use Rattle.js_keywords.specs.Reading.{rules}
use Rattle.js_walk.specs.declared.place.Place as W
use Rattle.js_walk.specs.PlacesView.{place_view}
use Rattle.js_walk.specs.Walking.{Passed, stack_view}

-- a stack of one place
pub alone : (root : Json) (ps : List Pointer) (p : W.Place) (before after : List W.Place) → after ≡ before ++ p ∷ []
    → before ≡ [] → place_view ps p ≡ ([], root) → stack_view ps after ≡ ([], root) ∷ []
alone root ps p before after e none is =
    ap (stack_view ps) (e ∙ ap (λ cs. cs ++ p ∷ []) none) ∙ ap (λ c. c ∷ []) is

module _ (root : Json) where
  pub begun : (done waiting : List Place) → done ≡ [] → waiting ≡ ([], root) ∷ [] → IsReading rules root done waiting 0
  begun done waiting d w =
      subst (λ ds. IsReading rules root ds waiting 0) (sym d)
      (subst (λ ws. IsReading rules root [] ws 0) (sym w) (readings.begin rules root))

  -- the places that are left out are done
  pub taken : (done waiting rest : List Place) (c : Place) (n : ℕ) → IsReading rules root done waiting n
      → next_of done waiting ≡ Some (c, rest)
      → (has_place done c.0 ≡ false) × IsReading rules root done (c ∷ rest) n
  taken done [] rest c n r h = absurd (none-some (c, rest) h)
  taken done (d ∷ ds) rest c n r h =
      go (has_place done d.0) refl h (λ s g. taken done ds rest c n s g)
    where
      go : (b : Bool) → has_place done d.0 ≡ b → cond b (next_of done ds) (Some (d, ds)) ≡ Some (c, rest)
          → (IsReading rules root done ds n → next_of done ds ≡ Some (c, rest)
          → (has_place done c.0 ≡ false) × IsReading rules root done (c ∷ rest) n)
          → (has_place done c.0 ≡ false) × IsReading rules root done (c ∷ rest) n
      go true e h later = later (readings.skip rules root done ds d n e r) h
      go false e h later =
          let same = same_Some (d, ds) (c, rest) h in (
            ap (λ x. has_place done x.0.0) (sym same) ∙ e,
            subst (λ x. IsReading rules root done (x.0 ∷ x.1) n) same r,
          )

  pub ended : (done waiting : List Place) (n : ℕ) → IsReading rules root done waiting n
      → next_of done waiting ≡ None → (first_fault rules root ≡ None) × (places rules root ≡ done)
  ended done [] n r h = readings.end rules root done n r
  ended done (d ∷ ds) n r h =
      go (has_place done d.0) refl h (λ s g. ended done ds n s g)
    where
      go : (b : Bool) → has_place done d.0 ≡ b → cond b (next_of done ds) (Some (d, ds)) ≡ None
          → (IsReading rules root done ds n → next_of done ds ≡ None
          → (first_fault rules root ≡ None) × (places rules root ≡ done))
          → (first_fault rules root ≡ None) × (places rules root ≡ done)
      go true e h later = later (readings.skip rules root done ds d n e r) h
      go false e h later = absurd (none-some (d, ds) (sym h))

  pub unmet : (done waiting rest : List Place) (c : Place) (n : ℕ) → IsReading rules root done waiting n
      → next_of done waiting ≡ Some (c, rest) → has_place done c.0 ≡ false
  unmet done waiting rest c n r h = (taken done waiting rest c n r h).0

  pub passed : (done waiting rest new waits : List Place) (c : Place) (n m : ℕ) → IsReading rules root done waiting n
      → next_of done waiting ≡ Some (c, rest) → Passed root n m c done new rest waits
      → IsReading rules root new waits m
  passed done waiting rest new waits c n m r h p =
      let t = taken done waiting rest c n r h in
      let next = readings.pass rules root done rest c n t.0 p.faultless t.1 in
      subst (λ ds. IsReading rules root ds waits m) (sym p.done)
      (subst (λ ws. IsReading rules root (done ++ c ∷ []) ws m) (sym p.waiting)
      (subst (λ k. IsReading rules root (done ++ c ∷ []) (children rules root c ++ rest) k) (sym p.weighs) next))

  pub fewer : (done waiting rest new waits : List Place) (c : Place) (n m : ℕ) → IsReading rules root done waiting n
      → next_of done waiting ≡ Some (c, rest) → Passed root n m c done new rest waits
      → count root - length new < count root - length done
  fewer done waiting rest new waits c n m r h p =
      let t = taken done waiting rest c n r h in
      let less = walks.enough rules root done rest c t.0 t.1.walking in
      let more = ap length p.done ∙ length-append done (c ∷ []) in
      omega (arith, less, more)

  told : (owed other : Option (Fault PatternFault RefFault)) (f : SchemaFault)
      → ((g : Fault PatternFault RefFault) → owed ≡ Some g → other ≡ Some g) → Tells owed f → Tells other f
  told owed other S.Memory follows h = tt
  told owed other _ follows h = follows _ h

  pub tells : (done waiting rest : List Place) (c : Place) (n : ℕ) (f : SchemaFault)
      → IsReading rules root done waiting n → next_of done waiting ≡ Some (c, rest)
      → Tells (fault_with rules root n c) f → Tells (first_fault rules root) f
  tells done waiting rest c n f r h says =
      let t = taken done waiting rest c n r h in
      told (fault_with rules root n c) (first_fault rules root) f
      (λ g some. readings.tell rules root done rest c n g t.0 some t.1) says

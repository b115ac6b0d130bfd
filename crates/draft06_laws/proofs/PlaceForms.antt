-- What the entry at a place asks is what the value at the place asks.
use Rattle.std.proofs.Common.{◌≡◌, ℕ, zero, suc, ◌<◌, ◌≤◌, List, [], ◌∷◌, map, length, inl, inr, Bool, true, false, Option, Some, None, Result, Ok, Err, codes, slice_get, refl, ap, sym, subst, ◌∙◌, arith}
use Rattle.std.proofs.lemmas.Option.{none-some, same_Some}
use Rattle.documents.specs.Document.{Document}
use Rattle.documents.specs.Json.{Json, null, boolean, number, not_whole, string, array, object, Members, lookup, count}
use Rattle.schemas.specs.Places.{Pointer, Place}
use Rattle.schemas.specs.Fault.{Rules}
use Rattle.schemas.specs.Walk.{root_id, next_of, go_on, walk, places}
use Rattle.schemas.specs.Reading.{reference_fault, object_fault, first_fault}
use Rattle.schemas.specs.Entry.{Entry}
use Rattle.schemas.specs.Entries.{number_of, referred_form, reference_form, object_form, form_at}
use Rattle.schemas.specs.Schema.{if_there}
use Rattle.list_laws.specs.In.{IsIn}
use Rattle.schema_laws.specs.Values.{names_differ}
use Rattle.schema_laws.specs.Sound.{IsSound}
use Rattle.schema_laws.proofs.NamesLaws.{names_differ-is_json}
use Rattle.schema_laws.proofs.Faultless.{faultless}
use Rattle.schema_laws.proofs.KeywordLaws.{reference-number}
use Rattle.draft06.specs.Matching.{finds_text}
use Rattle.draft06.specs.Validity as V
use Rattle.draft06.specs.EntryValidity as E
use Rattle.draft06_laws.proofs.KeywordsLaw.{value_there, value_of_entry, keywords_law}

-- the place with a number below their count
pub place_numbered : (cs : List Place) (e : ℕ) → e < length cs → (c : Place) × (slice_get cs e ≡ Some c) × IsIn c cs
place_numbered [] e h = absurd (omega (arith, h))
place_numbered (c ∷ cs) zero h = (c, refl, inl refl)
place_numbered (c ∷ cs) (suc e) h =
    let next = place_numbered cs e (omega (arith, h)) in (next.0, next.1, inr next.2)

pub numbered_below : (cs : List Place) (e : ℕ) (c : Place) → slice_get cs e ≡ Some c → e < length cs
numbered_below [] e c h = absurd (none-some c h)
numbered_below (d ∷ cs) zero c h = omega arith
numbered_below (d ∷ cs) (suc e) c h = let less = numbered_below cs e c h in omega (arith, less)

-- the entry of the place with that number
pub form_numbered : (f : Place → Entry) (cs : List Place) (e : ℕ) (c : Place) → slice_get cs e ≡ Some c
    → E.form_at (map f cs) e ≡ (f c).form
form_numbered f [] e c h = absurd (none-some c h)
form_numbered f (d ∷ cs) zero c h = ap (λ x. (f x).form) (same_Some d c h)
form_numbered f (d ∷ cs) (suc e) c h = form_numbered f cs e c h

module _ {P R : Type 0} (rules : Rules P R) (root : Json) where
  length-go_on : (n : ℕ) (follow : Place → List Place → List Place)
      → ((c : Place) (cs : List Place) → length (follow c cs) ≤ n) → (o : Option (Place × List Place))
      → length (go_on follow o) ≤ suc n
  length-go_on n follow h None = omega arith
  length-go_on n follow h (Some x) = let rest = h x.0 x.1 in omega (arith, rest)

  length-walk : (n : ℕ) (done waiting : List Place) → length (walk rules root n done waiting) ≤ n
  unfolding walk
  length-walk zero done waiting = omega arith
  length-walk (suc n) done waiting = length-go_on n _ (λ c cs. length-walk n _ _) (next_of done waiting)

  -- there are no more places than values
  pub length-places : length (places rules root) ≤ count root
  unfolding places
  length-places = length-walk (count root) [] (([], root) ∷ [])

pub first_place : {P R : Type 0} (rules : Rules P R) (root : Json) → slice_get (places rules root) 0 ≡ Some ([], root)
unfolding places walk
first_place rules null = refl
first_place rules (boolean b) = refl
first_place rules (number n) = refl
first_place rules not_whole = refl
first_place rules (string w) = refl
first_place rules (array vs) = refl
first_place rules (object ms) = refl

module _ {P R : Type 0} (rules : Rules P R) (root : Json) (sound : IsSound rules root)
    (none : first_fault rules root ≡ None)
    (here : Json → Bool) (below : Json → Document → Bool) where
  abbrev entry_of : Pointer → ℕ
  entry_of = number_of (places rules root)

  abbrev at : ℕ → Json
  at = value_of_entry (places rules root)

  abbrev asks_at : Place → Document → Bool
  asks_at c J = E.asks (finds_text rules) (λ e. here (at e)) (λ e. below (at e)) (form_at rules root entry_of c) J

  differ : names_differ root ≡ true
  differ = names_differ-is_json root sound.well_formed

  -- a reference
  referred_asks : (p : Pointer) (ms : Members) (w : List ℕ) (K : Document) → IsIn (p, object ms) (places rules root)
      → lookup (codes "$ref") ms ≡ Some (string w) → (r : Result Pointer R) → rules.target root w (root_id root) ≡ r
      → E.asks (finds_text rules) (λ e. here (at e)) (λ e. below (at e)) (referred_form rules root entry_of r) K
      ≡ if_there false here (V.value_referred rules root r)
  referred_asks p ms w K there h (Ok q) to =
      let leads = sound.leads w q to in
      ap (λ o. here (value_there o)) (reference-number rules root p q ms w leads.0 differ there h to leads.1)
      ∙ ap (if_there false here) (sym leads.1)
  referred_asks p ms w K there h (Err e) to = refl

  reference_asks : (p : Pointer) (ms : Members) (v : Json) (K : Document) → IsIn (p, object ms) (places rules root)
      → lookup (codes "$ref") ms ≡ Some v → reference_fault rules root p v ≡ None
      → E.asks (finds_text rules) (λ e. here (at e)) (λ e. below (at e)) (reference_form rules root entry_of v) K
      ≡ V.object_asks (finds_text rules) (V.target rules root) (Some v) here below ms K
  reference_asks p ms (string w) K there h right =
      referred_asks p ms w K there h (rules.target root w (root_id root)) refl
  reference_asks p ms _ K there h right = absurd (none-some _ (sym right))

  object_asks : (p : Pointer) (ms : Members) (K : Document) → IsIn (p, object ms) (places rules root)
      → (r : Option Json) → lookup (codes "$ref") ms ≡ r
      → E.asks (finds_text rules) (λ e. here (at e)) (λ e. below (at e)) (object_form rules root entry_of r p ms) K
      ≡ V.object_asks (finds_text rules) (V.target rules root) r here below ms K
  object_asks p ms K there (Some v) h =
      reference_asks p ms v K there h
      (subst (λ r. object_fault rules root r p ms ≡ None) h (faultless rules root (p, object ms) none there))
  object_asks p ms K there None h =
      keywords_law rules root differ p ms there (faultless rules root (p, object ms) none there) h (finds_text rules)
      here below K

  pub place_asks : (c : Place) (K : Document) → IsIn c (places rules root)
      → asks_at c K ≡ V.asks (finds_text rules) (V.target rules root) here below c.1 K
  place_asks (p, boolean true) K there = refl
  place_asks (p, boolean false) K there = refl
  place_asks (p, object ms) K there = object_asks p ms K there (lookup (codes "$ref") ms) refl
  place_asks (p, _) K there = refl

-- A schema without a first fault is read as a table: it has a root, its entries name entries alone, each value has its
-- range, and all of them weigh no more than a table may.
use Rattle.std.proofs.Common.{◌≡◌, ℕ, ◌≤◌, List, [], ◌∷◌, map, length, inl, inr, Bool, true, false, ◌&&◌, nat_lt, nat_le, Option, Some, None, Result, Ok, Err, codes, refl, sym, subst, arith}
use Rattle.std.proofs.Math.ListN.{length-map}
use Rattle.std.proofs.lemmas.Bool.{and_from}
use Rattle.documents.specs.Tests.{every}
use Rattle.documents.specs.Json.{Json, boolean, string, object, Members, lookup}
use Rattle.documents.specs.WellFormed.{is_json, are_members}
use Rattle.schemas.specs.Places.{Pointer, Place}
use Rattle.schemas.specs.Fault.{Rules}
use Rattle.schemas.specs.Walk.{root_id, places}
use Rattle.schemas.specs.Weight.{most_weight}
use Rattle.schemas.specs.Reading.{fault_at, first_fault}
use Rattle.schemas.specs.Entry.{Entry}
use Rattle.schemas.specs.Entries.{number_of, referred_form, reference_form, object_form, form_at, entry_at, entries_at}
use Rattle.schemas.specs.Schema.{names_below, form_in_range, total_size, is_table}
use Rattle.list_laws.specs.In.{IsIn}
use Rattle.schema_laws.specs.Sound.{IsSound}
use Rattle.schema_laws.proofs.WellFormedLaws.{values_well_formed}
use Rattle.schema_laws.proofs.Walks.{all_places}
use Rattle.schema_laws.proofs.Numbers.{number_of-below}
use Rattle.schema_laws.proofs.Faultless.{faultless, light}
use Rattle.schema_laws.proofs.TableSizes.{total_size-weights}
use Rattle.schema_laws.proofs.TableNumbers.{form_below}
use Rattle.schema_laws.proofs.TableRanges.{keywords_in_range}

every-map : {A B : Type 0} (test : B → Bool) (f : A → B) (xs : List A) → ((x : A) → IsIn x xs → test (f x) ≡ true)
    → every test (map f xs) ≡ true
every-map test f [] h = refl
every-map test f (x ∷ xs) h =
    and_from (test (f x)) (every test (map f xs)) (h x (inl refl)) (every-map test f xs (λ y i. h y (inr i)))

module _ {P R : Type 0} (rules : Rules P R) (root : Json) (sound : IsSound rules root)
    (none : first_fault rules root ≡ None) where
  abbrev entry_of : Pointer → ℕ
  entry_of = number_of (places rules root)

  referred_in_range : (r : Result Pointer R) → form_in_range (referred_form rules root entry_of r) ≡ true
  referred_in_range (Ok q) = refl
  referred_in_range (Err e) = refl

  reference_in_range : (v : Json) → form_in_range (reference_form rules root entry_of v) ≡ true
  reference_in_range (string w) = referred_in_range (rules.target root w (root_id root))
  reference_in_range _ = refl

  object_in_range : (r : Option Json) (p : Pointer) (ms : Members) → are_members ms ≡ true
      → fault_at rules root (p, object ms) ≡ None → lookup (codes "$ref") ms ≡ r
      → form_in_range (object_form rules root entry_of r p ms) ≡ true
  object_in_range (Some v) p ms well faultless h = reference_in_range v
  object_in_range None p ms well faultless h = keywords_in_range rules root entry_of p ms well faultless h

  place_in_range : (c : Place) → is_json c.1 ≡ true → fault_at rules root c ≡ None
      → form_in_range (form_at rules root entry_of c) ≡ true
  place_in_range (p, object ms) well faultless =
      object_in_range (lookup (codes "$ref") ms) p ms well faultless refl
  place_in_range (p, boolean true) well faultless = refl
  place_in_range (p, boolean false) well faultless = refl
  place_in_range (p, _) well faultless = refl

  form_is_in_range : (c : Place) → IsIn c (places rules root) → form_in_range (form_at rules root entry_of c) ≡ true
  form_is_in_range c i =
      let all = all_places rules root in
      place_in_range c (values_well_formed [] root c sound.well_formed (all.within c i)) (faultless rules root c none i)

  abbrev entries : List Entry
  entries = entries_at rules root (places rules root)

  length-entries : length entries ≡ length (places rules root)
  length-entries = length-map (places rules root) (entry_at rules root entry_of)

  has_root : nat_lt 0 (length entries) ≡ true
  has_root =
      let all = all_places rules root in
      let first = number_of-below (places rules root) [] all.rooted in
      let same = length-entries in
      grind (arith, first, same)

  names_entries : every (λ e. names_below (length entries) e.form) entries ≡ true
  names_entries =
      subst (λ n. every (λ (e : Entry). names_below n e.form) entries ≡ true) (sym length-entries)
      (every-map (λ (e : Entry). names_below (length (places rules root)) e.form) (entry_at rules root entry_of)
      (places rules root) (form_below rules root sound))

  in_range : every (λ e. form_in_range e.form) entries ≡ true
  in_range = every-map (λ (e : Entry). form_in_range e.form) (entry_at rules root entry_of) (places rules root)
      form_is_in_range

  fits : nat_le (total_size entries) most_weight ≡ true
  fits =
      let sizes = total_size-weights rules root entry_of (places rules root) in
      let weighs = light rules root none in
      let most = sound.weighs in
      let less : total_size entries ≤ most_weight = omega (arith, sizes, weighs, most) in
      grind (arith, less)

  -- the entries that are read of a file without fault are a table
  pub is_table-entries : is_table entries ≡ true
  is_table-entries =
      and_from (nat_lt 0 (length entries) && every (λ e. names_below (length entries) e.form) entries
      && every (λ e. form_in_range e.form) entries) (nat_le (total_size entries) most_weight)
      (and_from (nat_lt 0 (length entries) && every (λ e. names_below (length entries) e.form) entries)
      (every (λ e. form_in_range e.form) entries)
      (and_from (nat_lt 0 (length entries)) (every (λ e. names_below (length entries) e.form) entries) has_root
      names_entries) in_range) fits

-- From the places of a schema to its entries.
use Rattle.std.proofs.Common.{◌≡◌, ℕ, zero, suc, ◌<◌, ◌≤◌, List, [], ◌∷◌, length, get_or, inl, inr, true, None, Ok, sym, ap, subst, ◌∙◌, arith}
use Rattle.std.proofs.Math.ListN.{length-map, get_or-map}
use Rattle.documents.specs.Json.{Json}
use Rattle.documents.specs.WellFormed.{is_json}
use Rattle.schemas.specs.Places.{Place}
use Rattle.schemas.specs.Walk.{places}
use Rattle.schemas.specs.Reading.{fault_at, first_fault}
use Rattle.schemas.specs.Entry.{Form, Entry, entry}
use Rattle.schemas.specs.Entries.{number_of, form_at, entry_at, entries_at, entries_or, read}
use Rattle.schemas.specs.Schema.{is_table}
use Rattle.list_laws.specs.In.{IsIn}
use Rattle.schema_laws.proofs.Faultless.{faultless}
use Rattle.schema_laws.proofs.TableLaws.{is_table-length}
use Rattle.js_keywords.specs.Reading.{rules}
use Rattle.js_reader.proofs.Soundness.{is_table-read}

in_list : {A : Type 0} (xs : List A) (i : ℕ) (x : A) → i < length xs → x ≡ get_or xs i x → IsIn x xs
in_list [] i x l h = absurd (omega (arith, l))
in_list (y ∷ ys) zero x l h = inl h
in_list (y ∷ ys) (suc i) x l h = inr (in_list ys i x (omega (arith, l)) h)

module _ (root : Json) (cs : List Place) (all : places rules root ≡ cs) where
  place_among : (i : ℕ) (c : Place) → i < length cs → c ≡ get_or cs i c → IsIn c (places rules root)
  place_among i c l h = subst (IsIn c) (sym all) (in_list cs i c l h)

  pub place_faultless : (i : ℕ) (c : Place) → i < length cs → c ≡ get_or cs i c → first_fault rules root ≡ None
      → fault_at rules root c ≡ None
  place_faultless i c l h none = faultless rules root c none (place_among i c l h)

-- ---- the entries of all places

module _ (root : Json) (cs : List Place) where
  -- the entry at place i
  pub entry_made : (i : ℕ) (c : Place) (f : Form) → c ≡ get_or cs i c → f ≡ form_at rules root (number_of cs) c
      → entry c.0 f ≡ get_or (entries_at rules root cs) i (entry c.0 f)
  entry_made i c f h form =
      let made = ap (entry c.0) form in
      made ∙ ap (entry_at rules root (number_of cs)) h ∙ sym (get_or-map (entry_at rules root (number_of cs)) cs i c)
      ∙ ap (get_or (entries_at rules root cs) i) (sym made)

module _ (root : Json) (cs : List Place) (well : is_json root ≡ true) (none : first_fault rules root ≡ None)
    (all : places rules root ≡ cs) where
  -- there are few places
  pub few_places : length cs ≤ 2147483647
  few_places =
      let few = is_table-length (entries_at rules root (places rules root)) (is_table-read root well none) in
      let same = length-map (places rules root) (entry_at rules root (number_of (places rules root))) in
      let here = ap length all in
      omega (arith, few.1, same, here)

  pub table_made : (es : List Entry) → es ≡ entries_at rules root cs → is_table es ≡ true
  table_made es made =
      ap is_table (made ∙ ap (entries_at rules root) (sym all)) ∙ is_table-read root well none

  pub schema_made : (es : List Entry) → es ≡ entries_at rules root cs → read rules root ≡ Ok es
  schema_made es made =
      ap (entries_or rules root) none ∙ ap Ok (ap (entries_at rules root) all ∙ sym made)

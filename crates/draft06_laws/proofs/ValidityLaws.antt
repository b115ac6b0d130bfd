-- A document is valid for a schema exactly where it is valid for the first entry that the schema is read as, where
-- ranks of the entries fall in place; and more steps in place change nothing.
use Rattle.std.proofs.Common.{◌≡◌, ℕ, suc, ◌<◌, ◌≤◌, List, [], length, Bool, true, None, Some, slice_get, ap, sym, subst, ◌∙◌, arith}
use Rattle.std.proofs.Math.ListN.{length-map}
use Rattle.documents.specs.Document.{Document}
use Rattle.documents.specs.Json.{Json, count}
use Rattle.levels.specs.Within.{AreAlike}
use Rattle.levels.proofs.LevelsLaws.{weaker}
use Rattle.levels.proofs.WithinLaws.{is_met-alike}
use Rattle.schemas.specs.Places.{Place}
use Rattle.schemas.specs.Fault.{Rules}
use Rattle.schemas.specs.Walk.{places}
use Rattle.schemas.specs.Reading.{first_fault}
use Rattle.schemas.specs.Entry.{Entry}
use Rattle.schemas.specs.Entries.{number_of, entry_at, entries_at}
use Rattle.schemas.specs.Schema.{of_parts, is_table}
use Rattle.schema_laws.specs.Sound.{IsSound}
use Rattle.schema_laws.proofs.TableLaw.{is_table-entries}
use Rattle.draft06.specs.Matching.{finds_text}
use Rattle.draft06.specs.Validity as V
use Rattle.draft06.specs.Validity.{valid_within, valid}
use Rattle.draft06.specs.EntryValidity as E
use Rattle.draft06.specs.EntryValidity.{entry_valid}
use Rattle.draft06_laws.specs.Ranks.{FallInPlace}
use Rattle.draft06_laws.proofs.EntryLocal.{asks_same}
use Rattle.draft06_laws.proofs.EntryLaws.{IsEntry, entry_asks, named_in_place, parts_below, ranked}
use Rattle.draft06_laws.proofs.KeywordsLaw.{value_there, value_of_entry}
use Rattle.draft06_laws.proofs.PlaceForms.{place_numbered, numbered_below, form_numbered, length-places, first_place, place_asks}

module _ {P R : Type 0} (rules : Rules P R) (root : Json) (sound : IsSound rules root)
    (none : first_fault rules root ≡ None) where
  abbrev cs : List Place
  cs = places rules root

  -- the entries that the schema is read as
  abbrev es : List Entry
  es = entries_at rules root cs

  abbrev matches : List ℕ → List ℕ → Bool
  matches = finds_text rules

  abbrev at : ℕ → Json
  at = value_of_entry cs

  length-es : length es ≡ length cs
  length-es = length-map cs (entry_at rules root (number_of cs))

  table : is_table es ≡ true
  table = is_table-entries rules root sound none

  -- an entry asks what its value asks, where the entries that it names say the same as their values
  alike : AreAlike (entry_asks matches es) (V.asks matches (V.target rules root)) at (IsEntry es) (named_in_place es)
  alike here here' below below' e K i h b =
      let there = place_numbered cs e (subst (λ n. e < n) length-es i) in
      let form = form_numbered (entry_at rules root (number_of cs)) cs e there.0 there.1 in
      asks_same matches here (λ q. here' (at q)) below (λ q. below' (at q)) (E.form_at es e) K h
      (weaker (IsEntry es) _ (of_parts (E.form_at es e)) (λ q k L l. b q L k l) (parts_below matches es table e))
      ∙ ap (λ f. E.asks matches (λ q. here' (at q)) (λ q. below' (at q)) f K) form
      ∙ place_asks rules root sound none here' below' there.0 K there.2
      ∙ ap (λ o. V.asks matches (V.target rules root) here' below' (value_there o) K) (sym there.1)

  few_entries : length es ≤ count root
  few_entries = let few = length-places rules root in let same = length-es in omega (arith, few, same)

  module _ (rank : ℕ → ℕ) (falls : FallInPlace (entries_at rules root (places rules root)) rank) where
    -- an entry accepts what the value at its place accepts, with any number of steps that is no less than the entries
    pub entry_valid-within : (n e : ℕ) (c : Place) (K : Document)
        → length (entries_at rules root (places rules root)) ≤ n → slice_get (places rules root) e ≡ Some c
        → entry_valid (finds_text rules) (entries_at rules root (places rules root)) e K
        ≡ valid_within rules root n c.1 K
    unfolding entry_valid
    entry_valid-within n e c K enough there =
        is_met-alike (entry_asks matches es) (V.asks matches (V.target rules root)) at (IsEntry es) (named_in_place es)
        alike (length es) n rank (ranked matches es table rank falls)
        (λ q k. let less = falls.bounded q k in omega (arith, less, enough)) e K
        (subst (λ m. e < m) (sym length-es) (numbered_below cs e c there))
        ∙ ap (λ o. valid_within rules root n (value_there o) K) there

    -- validity over the entries is validity over the value
    pub entry_valid-valid : (K : Document)
        → entry_valid (finds_text rules) (entries_at rules root (places rules root)) 0 K ≡ valid rules root K
    unfolding valid
    entry_valid-valid K =
        entry_valid-within (suc (count root)) 0 ([], root) K (omega (arith, few_entries)) (first_place rules root)

    -- more steps in place change nothing
    pub valid-more : (n : ℕ) (K : Document) → count root ≤ n → valid_within rules root n root K ≡ valid rules root K
    valid-more n K enough =
        sym (entry_valid-within n 0 ([], root) K (omega (arith, few_entries, enough)) (first_place rules root))
        ∙ entry_valid-valid K

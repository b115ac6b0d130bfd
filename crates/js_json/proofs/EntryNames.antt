-- The names of a map's entries: texts that ascend by their bytes ascend by their scalar values.
use Rattle.std.proofs.Common.{◌≡◌, ℕ, List, [], ◌∷◌, ◌++◌, map, true, Less, String, Global, string_bytes, string_cmp, refl}
use Rattle.std.specs.List.{AllByRecursion}
use Rattle.std.proofs.lemmas.Bool.{and_from}
use Rattle.std.proofs.lemmas.List.{map_push}
use Rattle.std.proofs.lemmas.Str.{IsUtf8-string_bytes}
use Rattle.std.specs.Map.{keys_of}
use Rattle.std.specs.List.Sorted.{IsStrictlySortedBy}
use Rattle.std.specs.Str.{chars}
use Rattle.documents.specs.Json as J
use Rattle.documents.specs.WellFormed as F
use Rattle.js_doc.proofs.WordOrder.{comes_before-chars}
use Rattle.js_json.specs.Reading.{spelled_by}

module _ {V : Type 0} (f : V → J.Json) where
  before_others : (e : String Global × V) (es : List (String Global × V))
      → AllByRecursion (λ k. string_cmp e.0 k ≡ Less) (keys_of es)
      → F.is_before (chars (string_bytes e.0)) (J.members_of (map (spelled_by f) es)) ≡ true
  before_others e [] h = refl
  before_others e (x ∷ es) h =
      comes_before-chars (string_bytes e.0) (string_bytes x.0) (IsUtf8-string_bytes e.0) (IsUtf8-string_bytes x.0) h.0

  pub names_rise-spelled : (es : List (String Global × V)) → IsStrictlySortedBy string_cmp (keys_of es)
      → F.names_rise (J.members_of (map (spelled_by f) es)) ≡ true
  unfolding IsStrictlySortedBy
  names_rise-spelled [] h = refl
  names_rise-spelled (e ∷ es) h =
      let members = J.members_of (map (spelled_by f) es) in
      and_from (F.is_before (chars (string_bytes e.0)) members) (F.names_rise members)
      (before_others e es h.0) (names_rise-spelled es h.1)

  -- one more member, made of an entry
  pub made_more_by : {M : Type 0} (seen : M → List ℕ × J.Json) (made items : List M) (done : List (String Global × V))
      (e : String Global × V) (m : M) → items ≡ made ++ m ∷ [] → map seen made ≡ map (spelled_by f) done
      → seen m ≡ spelled_by f e → map seen items ≡ map (spelled_by f) (done ++ e ∷ [])
  made_more_by seen made items done e m all before is = rw (all, map_push, map_push, before, is) refl

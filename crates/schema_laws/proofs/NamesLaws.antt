-- Names that ascend differ.
use Rattle.std.proofs.Common.{◌≡◌, ℕ, List, Bool, true, false, ◌&&◌, cond, Some, is_none, refl, sym, ap, ◌∙◌, true≢false}
use Rattle.std.proofs.lemmas.Bool.{and_parts, and_from}
use Rattle.documents.specs.Tests.{same_word, comes_before}
use Rattle.documents.specs.Json.{Json, array, object, Items, no_items, item, Members, no_members, member, lookup}
use Rattle.documents.specs.WellFormed.{is_before, is_json, are_items, are_members}
use Rattle.documents.proofs.Parts.{member_parts}
use Rattle.documents.proofs.NameOrder.{comes_before-same, comes_before-trans}
use Rattle.schema_laws.specs.Values.{names_differ, names_differ_in, members_differ}
use Rattle.list_laws.proofs.Tests.{same_word-true}

is_before-trans : (k l : List ℕ) (ms : Members) → comes_before k l ≡ true → is_before l ms ≡ true
    → is_before k ms ≡ true
is_before-trans k l no_members h i = refl
is_before-trans k l (member m v ms) h i = comes_before-trans k l m h i

-- a name that comes before all is none of them
not_found : (k l : List ℕ) (v : Json) (ms : Members) (test : Bool) → same_word k l ≡ test → comes_before k l ≡ true
    → is_none (lookup k ms) ≡ true → is_none (cond test (Some v) (lookup k ms)) ≡ true
not_found k l v ms true e h later =
    absurd (true≢false (sym h ∙ ap (comes_before k) (sym (same_word-true k l e)) ∙ comes_before-same k))
not_found k l v ms false e h later = later

absent : (k : List ℕ) (ms : Members) → is_before k ms ≡ true → are_members ms ≡ true → is_none (lookup k ms) ≡ true
absent k no_members h w = refl
absent k (member l v ms) h w =
    let parts = member_parts l v ms w in
    not_found k l v ms (same_word k l) refl h (absent k ms (is_before-trans k l ms h parts.before) parts.others)

mutual
  -- in a well-formed value the names of each object differ
  pub names_differ-is_json : (v : Json) → is_json v ≡ true → names_differ v ≡ true
  names_differ-is_json (array vs) h = differ_in vs h
  names_differ-is_json (object ms) h = differ_among ms h
  names_differ-is_json _ h = refl

  differ_in : (vs : Items) → are_items vs ≡ true → names_differ_in vs ≡ true
  differ_in no_items h = refl
  differ_in (item v vs) h =
      let both = and_parts (is_json v) (are_items vs) h in
      and_from (names_differ v) (names_differ_in vs) (names_differ-is_json v both.0) (differ_in vs both.1)

  differ_among : (ms : Members) → are_members ms ≡ true → members_differ ms ≡ true
  differ_among no_members h = refl
  differ_among (member k v ms) h =
      let parts = member_parts k v ms h in
      and_from (is_none (lookup k ms)) (names_differ v && members_differ ms) (absent k ms parts.before parts.others)
      (and_from (names_differ v) (members_differ ms) (names_differ-is_json v parts.value)
      (differ_among ms parts.others))

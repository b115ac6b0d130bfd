-- Where a member is, or would be: how the search goes on, and what the members are afterwards.
use Rattle.std.proofs.Common.{◌≡◌, ℕ, ◌<◌, List, [], map, length, get_or, Bool, true, false, cond, Less, Equal, Greater, nat_cmp, chars, IsUtf8, refl, sym, ap, ◌∙◌}
use Rattle.std.specs.Cmp.Lexicographic.{slice_cmp}
use Rattle.std.proofs.Math.ListN.{set, length-map}
use Rattle.std.proofs.lemmas.List.{map-set, take-map, drop-map, map-append}
use Rattle.std.specs.List.{insert}
use Rattle.documents.specs.Json as D
use Rattle.documents.specs.WellFormed.{names_rise}
use Rattle.documents.specs.Tests.{comes_before}
use Rattle.js_doc.proofs.Levels.{get_or-mapped}
use Rattle.js_doc.proofs.Search.{named_at}
use Rattle.js_doc.proofs.WordOrder.{comes_before-chars, comes_after-chars, same_text}
use Rattle.js_doc.specs.declared.json.Json.{Json}
use Rattle.js_doc.specs.declared.rising.Named.{Named}
use Rattle.js_doc.specs.JsonView.{member_view}
use Rattle.families.specs.Objects.{with_member}
use Rattle.js_gen.specs.Places.{names, IsThere, IsFree}
use Rattle.js_gen.proofs.Ordered.{with_member-there, with_member-free, names_rise-with_member}

-- member i has the name that the text spells
pub record IsNamed (ms : List (Named Json)) (i : ℕ) (m : Named Json) (text : List ℕ) : Type 0 where
  pub within : i < length ms
  pub is : m ≡ get_or ms i m
  pub spelled : chars text ≡ (member_view m).0
  pub utf8 : IsUtf8 text

module _ (ms : List (Named Json)) (i : ℕ) (m : Named Json) (text : List ℕ) (at : IsNamed ms i m text) where
  name_at : get_or (names (map member_view ms)) i [] ≡ chars text
  name_at =
      named_at (map member_view ms) i (member_view m) (rw length-map at.within)
      (get_or-mapped member_view ms (map member_view ms) i m refl at.is) ∙ sym at.spelled

  pub name_before : (other : List ℕ) → IsUtf8 other → Less ≡ slice_cmp nat_cmp text other
      → comes_before (get_or (names (map member_view ms)) i []) (chars other) ≡ true
  name_before other u e =
      ap (λ w. comes_before w (chars other)) name_at ∙ comes_before-chars text other at.utf8 u (sym e)

  pub name_after : (other : List ℕ) → IsUtf8 other → Greater ≡ slice_cmp nat_cmp text other
      → comes_before (chars other) (get_or (names (map member_view ms)) i []) ≡ true
  name_after other u e =
      ap (comes_before (chars other)) name_at ∙ comes_after-chars text other at.utf8 u (sym e)

  pub name_same : (other : List ℕ) → Equal ≡ slice_cmp nat_cmp text other
      → get_or (names (map member_view ms)) i [] ≡ chars other
  name_same other e = name_at ∙ ap chars (same_text text other (sym e))

-- ---- the members with one more

module _ (ms : List (Named Json)) (i : ℕ) (m : Named Json) (name : List ℕ) (value : D.Json)
    (is : member_view m ≡ (name, value)) where
  pub put_there : IsThere (names (map member_view ms)) name i
      → map member_view (set ms i m) ≡ with_member (map member_view ms) (name, value)
  put_there h =
      map-set member_view ms i m ∙ ap (set (map member_view ms) i) is
      ∙ sym (with_member-there (map member_view ms) (name, value) i h)

  pub put_free : IsFree (names (map member_view ms)) name i
      → map member_view (insert ms i m) ≡ with_member (map member_view ms) (name, value)
  put_free h =
      mapped ∙ ap (insert (map member_view ms) i) is
      ∙ sym (with_member-free (map member_view ms) (name, value) i h) where
        mapped : map member_view (insert ms i m) ≡ insert (map member_view ms) i (member_view m)
        mapped = simp (map-append, take-map, drop-map)

  rises : (ns : List (Named Json)) → map member_view ns ≡ with_member (map member_view ms) (name, value)
      → names_rise (D.members_of (map member_view ms)) ≡ true
      → names_rise (D.members_of (map member_view ns)) ≡ true
  rises ns e h =
      ap (λ l. names_rise (D.members_of l)) e ∙ names_rise-with_member (map member_view ms) (name, value) h

  pub rises_there : IsThere (names (map member_view ms)) name i
      → names_rise (D.members_of (map member_view ms)) ≡ true
      → names_rise (D.members_of (map member_view (set ms i m))) ≡ true
  rises_there h r = rises (set ms i m) (put_there h) r

  -- the members stay where there was no memory
  pub rises_free : (ns : List (Named Json)) (ok : Bool) → ns ≡ cond ok (insert ms i m) ms
      → IsFree (names (map member_view ms)) name i → names_rise (D.members_of (map member_view ms)) ≡ true
      → names_rise (D.members_of (map member_view ns)) ≡ true
  rises_free ns true e h r = rises ns (ap (map member_view) e ∙ put_free h) r
  rises_free ns false e h r = ap (λ l. names_rise (D.members_of (map member_view l))) e ∙ r

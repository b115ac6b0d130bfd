-- The map of names has the place of each, also when a name is added behind the others.
use Rattle.std.proofs.Common.{◌≡◌, ℕ, List, [], ◌∷◌, ◌++◌, length, Bool, true, false, cond, Option, Some, None, position, bytes_eq, string_bytes, refl, sym, ap, ◌∙◌}
use Rattle.std.specs.Prelude.{String}
use Rattle.std.specs.String.{string_cmp}
use Rattle.std.specs.BTreeMap.{BTreeMap, Updates, get_by_text}
use Rattle.std.proofs.lemmas.Bool.{false≢true}
use Rattle.std.proofs.lemmas.Map.Text.{btree_map_updates_text}
use Rattle.std.proofs.lemmas.Slice.Eq.{bytes_eq-Decides}
use Rattle.js_pointers.specs.NamePlaces.{ArePlaces}
use Rattle.js_pointers.proofs.PositionLemmas.{position-push_old, position-push_new, position-push_none}

module _ {Z Y : Type 0} (names : List (String Z)) (places new : BTreeMap (String Y) ℕ) (name : String Z)
    (key : String Y) (same : string_bytes key ≡ string_bytes name) (are : ArePlaces names places)
    (missing : position (λ w. bytes_eq (string_bytes name) (string_bytes w)) names ≡ None)
    (updates : Updates string_cmp places new key (Some (length names))) where
  abbrev is_text : List ℕ → String Z → Bool
  is_text bytes w = bytes_eq bytes (string_bytes w)

  -- with one more name, at the next place, the map has the place of each name
  pub more_places : ArePlaces (names ++ name ∷ []) new
  more_places bytes =
      btree_map_updates_text (string_bytes key) places new (Some (length names)) updates bytes
      ∙ ap (λ b. cond (bytes_eq b bytes) (Some (length names)) (get_by_text places bytes)) same
      ∙ go (bytes_eq (string_bytes name) bytes) refl
    where
      old : (o : Option ℕ) → position (is_text bytes) names ≡ o → is_text bytes name ≡ false
          → o ≡ position (is_text bytes) (names ++ name ∷ [])
      old None e other = sym (position-push_none (is_text bytes) names name e other)
      old (Some i) e other = sym (position-push_old (is_text bytes) names name i e)

      go : (b : Bool) → bytes_eq (string_bytes name) bytes ≡ b
          → cond b (Some (length names)) (get_by_text places bytes)
          ≡ position (is_text bytes) (names ++ name ∷ [])
      go true e =
          let is : string_bytes name ≡ bytes = (bytes_eq-Decides (string_bytes name) bytes).0 e in
          sym (position-push_new (is_text bytes) names name
          (ap (λ b. position (is_text b) names) (sym is) ∙ missing)
          ((bytes_eq-Decides bytes (string_bytes name)).1 (sym is)))
      go false e =
          are bytes ∙ old (position (is_text bytes) names) refl
          (other (bytes_eq bytes (string_bytes name)) refl)
        where
          other : (b : Bool) → bytes_eq bytes (string_bytes name) ≡ b → bytes_eq bytes (string_bytes name) ≡ false
          other false h = h
          other true h =
              absurd (false≢true (sym e ∙ (bytes_eq-Decides (string_bytes name) bytes).1
              (sym ((bytes_eq-Decides bytes (string_bytes name)).0 h))))

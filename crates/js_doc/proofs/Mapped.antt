-- Named values whose values are mapped.
use Rattle.std.proofs.Common.{◌≡◌, ℕ, List, [], ◌∷◌, map, Option, Some, None, option_map, Bool, true, false, cond, Bor, refl, ap, ◌∙◌}
use Rattle.documents.specs.Tests.{same_word}
use Rattle.js_doc.specs.declared.rising.Named.{Named}
use Rattle.js_doc.specs.Names.{names_of, pairs_of, find_in}
pub use Rattle.js_doc.specs.formers.rising.Rising.{with_value}

module _ {T A : Type 0} (h : T → A) where
  abbrev pub viewed : Named T → List ℕ × A
  viewed m = (m.name.text, h m.value)

  pub pairs_of-with_value : (ms : List (Named T)) → pairs_of (map (with_value h) ms) ≡ map viewed ms
  pairs_of-with_value [] = refl
  pairs_of-with_value (m ∷ ms) = ap (λ l. viewed m ∷ l) (pairs_of-with_value ms)

  pub names-viewed : (ms : List (Named T)) → map (λ p. p.0) (map viewed ms) ≡ names_of ms
  names-viewed [] = refl
  names-viewed (m ∷ ms) = ap (λ l. m.name.text ∷ l) (names-viewed ms)

  found-chosen : (test : Bool) (v : T) (r : Option T)
      → option_map h (cond test (Some v) r) ≡ cond test (Some (h v)) (option_map h r)
  found-chosen true v r = refl
  found-chosen false v r = refl

  pub find_in-viewed : (w : List ℕ) (ms : List (Named T))
      → option_map h (find_in w (pairs_of ms)) ≡ find_in w (map viewed ms)
  find_in-viewed w [] = refl
  find_in-viewed w (m ∷ ms) =
      found-chosen (same_word w m.name.text) m.value (find_in w (pairs_of ms))
      ∙ ap (cond (same_word w m.name.text) (Some (h m.value))) (find_in-viewed w ms)

  -- what a reference holds is seen through the reference
  pub seen_through : (r : Option (Bor T)) → option_map (λ b. h b.now) r ≡ option_map h (option_map (λ b. b.now) r)
  seen_through None = refl
  seen_through (Some b) = refl

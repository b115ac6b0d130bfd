-- The entry at a place, through its view.
use Rattle.std.proofs.Common.{◌≡◌, ℕ, ◌^◌, ◌<◌, List, [], ◌∷◌, ◌++◌, map, length, get_or, true, Result, Ok, Err, IfOk, rules, sym, ap, ◌∙◌, nat_lt, refl, arith}
use Rattle.std.proofs.lemmas.Bool.{and_parts, and_from, lt-ltb}
use Rattle.std.proofs.Math.ListN.{get_or-map, length-map}
use Rattle.schemas.specs.Schema.{is_table}
use Rattle.schema_laws.proofs.TableLaws.{is_table-length}
use Rattle.schemas.specs.Places.{Pointer}
use Rattle.js_schema.specs.declared.entry.Entry.{Entry}
use Rattle.js_schema.specs.View.{are_placed, entry_view, form_view}

module _ (ps : List Pointer) where
  -- the form of an entry in the program is that of the entry for which it stands
  pub form_at : (es : List Entry) (i : ℕ) (e : Entry) → e ≡ get_or es i e
      → form_view e.form ≡ get_or (map (λ x. x.form) (map (entry_view ps) es)) i (form_view e.form)
  form_at es i e h =
      ap (λ x. form_view x.form) h ∙ sym (ap (λ x. x.form) (get_or-map (entry_view ps) es i e))
      ∙ sym (get_or-map (λ x. x.form) (map (entry_view ps) es) i (entry_view ps e))

  pointer_at : (es : List Entry) (i : ℕ) (e : Entry) (p : Pointer) → e ≡ get_or es i e
      → p ≡ get_or ps e.pointer [] → p ≡ get_or (map (λ x. x.pointer) (map (entry_view ps) es)) i p
  pointer_at es i e p h made =
      made ∙ ap (λ x. get_or ps x.pointer []) h ∙ sym (ap (λ x. x.pointer) (get_or-map (entry_view ps) es i e))
      ∙ sym (get_or-map (λ x. x.pointer) (map (entry_view ps) es) i (entry_view ps e))
      ∙ ap (get_or (map (λ x. x.pointer) (map (entry_view ps) es)) i) (sym made)

  pub pointer_answered : {E : Type 0} (es : List Entry) (i : ℕ) (e : Entry) (r : Result Pointer E) → e ≡ get_or es i e
      → IfOk r (λ p. p ≡ get_or ps e.pointer [])
      → IfOk r (λ p. p ≡ get_or (map (λ x. x.pointer) (map (entry_view ps) es)) i p)
  pointer_answered es i e (Ok p) h made = pointer_at es i e p h made
  pointer_answered es i e (Err f) h made = search rules

  pub are_placed-push : (es : List Entry) (e : Entry) → are_placed ps es ≡ true → e.pointer < length ps
      → are_placed ps (es ++ e ∷ []) ≡ true
  are_placed-push [] e h l = and_from (nat_lt e.pointer (length ps)) true (lt-ltb e.pointer (length ps) l) refl
  are_placed-push (f ∷ es) e h l =
      let parts = and_parts (nat_lt f.pointer (length ps)) (are_placed ps es) h in
      and_from (nat_lt f.pointer (length ps)) (are_placed ps (es ++ e ∷ [])) parts.0 (are_placed-push es e parts.1 l)

  pub few_entries : (es : List Entry) → is_table (map (entry_view ps) es) ≡ true → length es < 2 ^ 32
  few_entries es h =
      let few = is_table-length (map (entry_view ps) es) h in omega (arith, few.1, length-map es (entry_view ps))

pub ruleset placed = (are_placed-push)

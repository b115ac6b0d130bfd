-- A binary search among properties whose names rise finds what a look at each of them does.
use Rattle.std.proofs.Common.{◌≡◌, inr, ℕ, zero, suc, ◌<◌, List, [], ◌∷◌, map, length, get_or, Bool, true, false, ◌&&◌, cond, Option, Some, None, refl, sym, ap, ◌∙◌, arith, true≢false}
use Rattle.std.proofs.lemmas.Bool.{and_parts}
use Rattle.std.proofs.lemmas.Slice.Eq.{bytes_eq-Decides}
use Rattle.std.proofs.Math.ListN.{length-map}
use Rattle.documents.specs.Tests.{every, same_word, comes_before}
use Rattle.schemas.specs.Entry.{Entry}
use Rattle.schemas.specs.Weight.{most_weight}
use Rattle.schemas.specs.Schema.{lists, one, is_ascending, is_word, are_keys, is_table, form_in_range, total_size}
use Rattle.std.specs.Prelude.{nat_le}
use Rattle.draft06.specs.EntryValidity.{form_at}
use Rattle.list_laws.proofs.Tests.{same_word_comm}
use Rattle.js_doc.proofs.Lookups.{same_word-bytes_eq}
use Rattle.js_doc.proofs.Search.{rise, names, find_in, rising, absent}
use Rattle.js_valid.specs.Parts.{of_named}

abbrev of_word : List ℕ → List (List ℕ × ℕ) → List ℕ
of_word w ps = of_named (λ n. same_word n w) ps

abbrev is_none : Option ℕ → Bool
is_none None = true
is_none (Some x) = false

pub ascending-rise : (ks : List (List ℕ)) → is_ascending ks ≡ rise ks
ascending-rise [] = refl
ascending-rise (w ∷ []) = refl
ascending-rise (w ∷ x ∷ ws) = ap (λ b. comes_before w x && b) (ascending-rise (x ∷ ws))

none-named : (ps : List (List ℕ × ℕ)) (w : List ℕ) → find_in w ps ≡ None → of_word w ps ≡ []
none-named [] w h = refl
none-named (p ∷ ps) w h = go (same_word w p.0) refl (none-named ps w)
  where
    go : (b : Bool) → same_word w p.0 ≡ b → (find_in w ps ≡ None → of_word w ps ≡ [])
        → of_word w (p ∷ ps) ≡ []
    go true k again =
        absurd (true≢false (sym (ap is_none (sym (ap (λ b. cond b (Some p.1) (find_in w ps)) k) ∙ h))))
    go false k again =
        ap (λ b. cond b (p.1 ∷ of_word w ps) (of_word w ps)) (same_word_comm p.0 w ∙ k)
        ∙ again (sym (ap (λ b. cond b (Some p.1) (find_in w ps)) k) ∙ h)

-- at most one property has the name
pub found-named : (ps : List (List ℕ × ℕ)) (w : List ℕ) → rise (names ps) ≡ true
    → lists one (find_in w ps) ≡ of_word w ps
found-named [] w r = refl
found-named (p ∷ ps) w r =
    go (same_word w p.0) refl (found-named ps w (and_parts _ (rise (names ps)) r).1)
  where
    alone : same_word w p.0 ≡ true → of_word w ps ≡ []
    alone k =
        let same = (bytes_eq-Decides w p.0).0 (sym (same_word-bytes_eq w p.0) ∙ k) in
        none-named ps w (absent ps w (λ j less. inr
        (ap (λ v. comes_before v (get_or (names ps) j [])) same
        ∙ rising (names (p ∷ ps)) r 0 (suc j) (omega arith) (omega (arith, less, length-map ps (λ m. m.0))))))

    go : (b : Bool) → same_word w p.0 ≡ b → lists one (find_in w ps) ≡ of_word w ps
        → lists one (find_in w (p ∷ ps)) ≡ of_word w (p ∷ ps)
    go true k again =
        ap (λ b. lists one (cond b (Some p.1) (find_in w ps))) k
        ∙ sym (ap (λ b. cond b (p.1 ∷ of_word w ps) (of_word w ps)) (same_word_comm p.0 w ∙ k)
        ∙ ap (λ qs. p.1 ∷ qs) (alone k))
    go false k again =
        ap (λ b. lists one (cond b (Some p.1) (find_in w ps))) k ∙ again
        ∙ sym (ap (λ b. cond b (p.1 ∷ of_word w ps) (of_word w ps)) (same_word_comm p.0 w ∙ k))

pub keys-rise : (ps : List (List ℕ × ℕ)) → are_keys ps ≡ true → rise (names ps) ≡ true
keys-rise ps h =
    let both = and_parts (every (λ n. is_word n.0) ps) (is_ascending (map (λ n. n.0) ps)) h in
    sym (ascending-rise (map (λ n. n.0) ps)) ∙ both.1

-- ---- forms of a table

form_fine : (es : List Entry) (e : ℕ) → every (λ e. form_in_range e.form) es ≡ true → e < length es
    → form_in_range (form_at es e) ≡ true
form_fine [] e h l = absurd (omega (arith, l))
form_fine (f ∷ fs) zero h l = (and_parts (form_in_range f.form) (every (λ e. form_in_range e.form) fs) h).0
form_fine (f ∷ fs) (suc e) h l =
    form_fine fs e (and_parts (form_in_range f.form) (every (λ e. form_in_range e.form) fs) h).1 (omega (arith, l))

pub form-fine : (es : List Entry) (e : ℕ) → is_table es ≡ true → e < length es → form_in_range (form_at es e) ≡ true
form-fine es e h l =
    let weight = and_parts _ (nat_le (total_size es) most_weight) h in
    let range = and_parts _ (every (λ e. form_in_range e.form) es) weight.0 in
    form_fine es e range.1 l

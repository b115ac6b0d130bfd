-- A set that has what is in a list has it also when one more is added to both.
use Rattle.std.proofs.Common.{◌≡◌, ℕ, ℤ, List, [], ◌∷◌, ◌++◌, Bool, true, false, cond, ◌||◌, String, string_bytes, string_cmp, chars, refl, sym, ap, ◌∙◌}
use Rattle.std.specs.Ordering.{int_cmp, int_eq}
use Rattle.std.specs.BTreeSet.{BTreeSet, Updates, contains, contains_text}
use Rattle.std.proofs.lemmas.Cmp.{int_eq_equiv}
use Rattle.std.proofs.lemmas.Map.Text.{btree_set_updates_text}
use Rattle.std.proofs.lemmas.Str.{IsUtf8-string_bytes}
use Rattle.documents.specs.Tests.{same_word}
use Rattle.js_doc.proofs.Lookups.{same_word-named}
use Rattle.js_values.specs.Sets.{AreWords, AreNumbers}
use Rattle.js_values.proofs.OnceLaws.{some-end}

or-cond : (a b d : Bool) → a ≡ d → cond a true b ≡ (b || (d || false))
or-cond true true d e = refl
or-cond true false d e = ap (λ b. b || false) e
or-cond false true d e = refl
or-cond false false d e = ap (λ b. b || false) e

-- with one more word, in the list and in the set, the set has what is in the list
pub more_words : {Y : Type 0} (words : List (List ℕ)) (set new : BTreeSet (String Y)) (key : String Y) (word : List ℕ)
    → chars (string_bytes key) ≡ word → AreWords words set → Updates string_cmp set new key true
    → AreWords (words ++ word ∷ []) new
more_words words set new key word is are updates bytes u =
    btree_set_updates_text (string_bytes key) set new true updates bytes
    ∙ or-cond _ (contains_text set bytes) (same_word (chars bytes) word)
    (sym (same_word-named bytes (string_bytes key) word _ u (IsUtf8-string_bytes key) is refl))
    ∙ ap (λ b. b || (same_word (chars bytes) word || false)) (are bytes u)
    ∙ sym (some-end (same_word (chars bytes)) words word)

pub more_numbers : (numbers : List ℤ) (set new : BTreeSet ℤ) (number : ℤ) → AreNumbers numbers set
    → Updates int_cmp set new number true → AreNumbers (numbers ++ number ∷ []) new
more_numbers numbers set new number are updates n =
    updates.0 n
    ∙ or-cond (int_eq number n) (contains int_cmp set n) (int_eq n number) (int_eq_equiv.symm number n)
    ∙ ap (λ b. b || (int_eq n number || false)) (are n)
    ∙ sym (some-end (int_eq n) numbers number)

-- Names that rise, and what is found among named values, whatever type these have.
use Rattle.std.specs.Prelude.{ℕ, List, [], ◌∷◌, map, Bool, true, ◌&&◌, Option, Some, None, cond}
use Rattle.documents.specs.Tests.{same_word, comes_before}
use Rattle.js_doc.specs.declared.rising.Named.{Named}

-- the name comes before the first of the names
abbrev pub starts_after : List ℕ → List (List ℕ) → Bool
starts_after k [] = true
starts_after k (l ∷ ls) = comes_before k l

-- each name comes before the next one
abbrev pub rise : List (List ℕ) → Bool
rise [] = true
rise (k ∷ ks) = starts_after k ks && rise ks

abbrev pub name_of : {T : Type 0} → Named T → List ℕ
name_of m = m.name.text

abbrev pub names_of : {T : Type 0} → List (Named T) → List (List ℕ)
names_of ms = map name_of ms

abbrev pub pair_of : {T : Type 0} → Named T → List ℕ × T
pair_of m = (m.name.text, m.value)

abbrev pub pairs_of : {T : Type 0} → List (Named T) → List (List ℕ × T)
pairs_of ms = map pair_of ms

-- what the first of that name has, where there is one
abbrev pub find_in : {A : Type 0} → List ℕ → List (List ℕ × A) → Option A
find_in w [] = None
find_in w (m ∷ ms) = cond (same_word w m.0) (Some m.1) (find_in w ms)

-- What is measured of a part, from what is measured of the parts that it names.
use Rattle.std.specs.Prelude.{ℕ, ◌+◌, ◌-◌, List, [], ◌∷◌, length, map, min, max, Bool, true, ◌&&◌}
use Rattle.shared_documents.specs.Part.{Part, null, boolean, number, string, array, object}
use Rattle.document_texts.specs.Scalars.{string_text}
use Rattle.document_texts.specs.PartsText.{part_text}
use Rattle.document_texts.specs.Measured.{Measured, is_short}
use Rattle.js_text.specs.declared.measures.Measure.{Measure}

abbrev pub measure_view : Measure → Measured
measure_view m = record { length = m.length; depth = m.depth; short_numbers = m.short_numbers }

abbrev pub longest : ℕ
longest = 18446744073709551615

abbrev pub deepest : ℕ
deepest = 4294967295

-- a scalar of that text
abbrev pub scalar_measure : List ℕ → Bool → Measured
scalar_measure text short = record { length = min (length text) longest; depth = 0; short_numbers = short }

-- one more element, with so many bytes before it
abbrev pub added : Measured → ℕ → Measured → Measured
added a n m = record {
  length = min (min (a.length + n) longest + m.length) longest;
  depth = max a.depth m.depth;
  short_numbers = a.short_numbers && m.short_numbers;
}

abbrev pub no_elements : Measured
no_elements = record { length = 0; depth = 0; short_numbers = true }

abbrev pub summed : Measured → List (ℕ × Measured) → Measured
summed a [] = a
summed a (e ∷ es) = summed (added a e.0 e.1) es

-- the commas and brackets of n elements are added
abbrev pub closed : ℕ → Measured → Measured
closed n a = record {
  length = min (a.length + (n - 1 + 2)) longest;
  depth = min (a.depth + 1) deepest;
  short_numbers = a.short_numbers;
}

abbrev pub container_measure : List (ℕ × Measured) → Measured
container_measure es = closed (length es) (summed no_elements es)

-- the bytes before a member's value: its name and a colon
abbrev pub name_length : List ℕ → ℕ
name_length k = length (string_text k) + 1

abbrev pub ids_measure : (ℕ → Measured) → List ℕ → Measured
ids_measure f is = container_measure (map (λ i. (0, f i)) is)

abbrev pub members_measure : (ℕ → Measured) → List (List ℕ × ℕ) → Measured
members_measure f ms = container_measure (map (λ m. (name_length m.0, f m.1)) ms)

abbrev pub part_measure : (ℕ → Measured) → Part → Measured
part_measure f null = scalar_measure (part_text null) true
part_measure f (boolean b) = scalar_measure (part_text (boolean b)) true
part_measure f (number n) = scalar_measure (part_text (number n)) (is_short n)
part_measure f (string s) = scalar_measure (part_text (string s)) true
part_measure f (array is) = ids_measure f is
part_measure f (object ms) = members_measure f ms

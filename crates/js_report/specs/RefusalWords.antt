-- The words that say what is wrong in a file, and where. They are bytes, and all but pointers are ASCII.
use Rattle.std.specs.Prelude.{ℕ, List, [], ◌∷◌, ◌++◌, map, get_or, codes, decimal}
use Rattle.schemas.specs.Places.{Pointer}
use Rattle.schemas.specs.Fault as F
use Rattle.schemas.specs.Entry.{Entry}
use Rattle.js_json.specs.Pointer.{pointer_text, quoted}
use Rattle.js_json.specs.declared.fault.RefFault.{RefFault}
use Rattle.js_json.specs.declared.fault.RefFault.TheVariants as R
use Rattle.js_pattern.specs.Names.{form_name}
use Rattle.js_pattern.specs.declared.fault.PatternFault.{PatternFault}
use Rattle.js_pattern.specs.declared.fault.PatternFault.TheVariants as P

-- the words, and the place after them as a JSON string
abbrev pub placed_words : List ℕ → List (List ℕ) → List ℕ
placed_words words p = words ++ 32 ∷ quoted (pointer_text p)

-- why a reference leads to no schema; want of memory has no word
abbrev pub reference_word : RefFault → List ℕ
reference_word R.Remote = codes "remote"
reference_word R.BadPointer = codes "badpointer"
reference_word R.Missing = codes "missing"
reference_word R.NotASchema = codes "notaschema"
reference_word R.Memory = []

-- why a text is no pattern; want of memory has no word
abbrev pub pattern_word : PatternFault → List ℕ
pattern_word (P.Syntax at) = codes "syntax"
pattern_word (P.Unsupported at form) = codes "unsupported"
pattern_word (P.QuantifierOrder at) = codes "quantifierorder"
pattern_word (P.RangeOrder at) = codes "rangeorder"
pattern_word (P.RepeatTooWide at) = codes "repeattoowide"
pattern_word P.Memory = []

-- the form that the profile leaves out, where it is that
abbrev pub form_words : PatternFault → List ℕ
form_words (P.Unsupported at form) = 32 ∷ form_name form
form_words _ = []

-- the number of scalar values before the fault
abbrev pub count_before : PatternFault → ℕ
count_before (P.Syntax at) = at
count_before (P.Unsupported at form) = at
count_before (P.QuantifierOrder at) = at
count_before (P.RangeOrder at) = at
count_before (P.RepeatTooWide at) = at
count_before P.Memory = 0

abbrev pub pattern_words : PatternFault → List ℕ
pattern_words reason = pattern_word reason ++ form_words reason ++ 32 ∷ decimal (count_before reason)

-- what is wrong, and where
abbrev pub schema_words : F.Fault PatternFault RefFault → List ℕ
schema_words (F.NotASchema p) = placed_words (codes "notaschema") p
schema_words (F.WrongShape keyword p) = placed_words (codes "wrongshape " ++ keyword) p
schema_words (F.NotWhole p) = placed_words (codes "notwhole") p
schema_words (F.NotPositive p) = placed_words (codes "notpositive") p
schema_words (F.Negative p) = placed_words (codes "negative") p
schema_words (F.EmptyList p) = placed_words (codes "emptylist") p
schema_words (F.UniqueItems p) = placed_words (codes "uniqueitems") p
schema_words (F.InnerId p) = placed_words (codes "innerid") p
schema_words (F.BadReference reason p) = placed_words (codes "ref " ++ reference_word reason) p
schema_words (F.BadPattern reason p) = placed_words (codes "pattern " ++ pattern_words reason) p
schema_words (F.TooLarge p) = placed_words (codes "toolarge") p

abbrev pub pointer_at : List Entry → ℕ → Pointer
pointer_at es e = get_or (map (λ x. x.pointer) es) e []

-- the places of some entries, each after a blank
abbrev pub place_words : List Entry → List ℕ → List ℕ
place_words es [] = []
place_words es (e ∷ l) = (32 ∷ quoted (pointer_text (pointer_at es e))) ++ place_words es l

-- a cycle of entries that apply to the same document
abbrev pub cycle_words : List Entry → List ℕ → List ℕ
cycle_words es l = codes "cycle" ++ place_words es l

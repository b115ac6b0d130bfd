-- The text of a table of parts: a line that says how many there are, and then a line for each, lowest first.
use Rattle.std.specs.Prelude.{ℕ, suc, List, [], ◌∷◌, ◌++◌, length, map, codes}
use Rattle.std.specs.Fmt.{decimal, signed_decimal}
use Rattle.shared_documents.specs.Part.{Part, null, boolean, number, string, array, object}
use Rattle.document_texts.specs.Scalars.{string_text, truth_text, enclosed}

-- the part of that number
abbrev pub reference_text : ℕ → List ℕ
reference_text i = 35 ∷ decimal i

abbrev pub named_text : List ℕ × ℕ → List ℕ
named_text m = string_text m.0 ++ 58 ∷ reference_text m.1

abbrev pub part_text : Part → List ℕ
part_text null = codes "null"
part_text (boolean b) = truth_text b
part_text (number n) = signed_decimal n
part_text (string s) = string_text s
part_text (array is) = enclosed 91 (map reference_text is) 93
part_text (object ms) = enclosed 123 (map named_text ms) 125

-- the number of a part, a blank, and the part
abbrev pub line_text : ℕ → Part → List ℕ
line_text i p = decimal i ++ 32 ∷ part_text p ++ 10 ∷ []

-- parts numbered from i
abbrev pub lines_text : ℕ → List Part → List ℕ
lines_text i [] = []
lines_text i (p ∷ ps) = line_text i p ++ lines_text (suc i) ps

abbrev pub count_text : ℕ → List ℕ
count_text n = codes "parts " ++ decimal n ++ 10 ∷ []

abbrev pub parts_text : List Part → List ℕ
parts_text ps = count_text (length ps) ++ lines_text 0 ps

-- The bytes of strings, truth values and lists in compact JSON.
use Rattle.std.specs.Prelude.{ℕ, ◌/◌, ◌%◌, List, [], ◌∷◌, ◌++◌, flat_map, Bool, true, false, ◌||◌, cond, nat_eq, nat_lt, codes}
use Rattle.std.specs.Char.{digit_char, encode_utf8}

-- the character's UTF-8, or `\u00` and two digits where it is a control character
abbrev pub unescaped : ℕ → List ℕ
unescaped c = cond (nat_lt c 32) (codes "\\u00" ++ digit_char (c / 16) ∷ digit_char (c % 16) ∷ []) (encode_utf8 c)

-- what is in a string for a character: the shortest escape of those that need one, and no other is escaped
abbrev pub character_text : ℕ → List ℕ
character_text c =
    cond (nat_eq c 34 || nat_eq c 92) (92 ∷ c ∷ [])
    (cond (nat_eq c 8) (codes "\\b")
    (cond (nat_eq c 12) (codes "\\f")
    (cond (nat_eq c 10) (codes "\\n")
    (cond (nat_eq c 13) (codes "\\r") (cond (nat_eq c 9) (codes "\\t") (unescaped c))))))

abbrev pub string_text : List ℕ → List ℕ
string_text s = 34 ∷ flat_map character_text s ++ 34 ∷ []

abbrev pub truth_text : Bool → List ℕ
truth_text true = codes "true"
truth_text false = codes "false"

-- texts with commas between them
abbrev pub joined : List (List ℕ) → List ℕ
joined [] = []
joined (x ∷ xs) = x ++ flat_map (λ y. 44 ∷ y) xs

-- a list between its brackets
abbrev pub enclosed : ℕ → List (List ℕ) → ℕ → List ℕ
enclosed first xs last = first ∷ joined xs ++ last ∷ []

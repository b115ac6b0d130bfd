-- A text cut at the places of a byte, and what follows a word.
use Rattle.std.specs.Prelude.{ℕ, List, [], ◌∷◌, ◌++◌, Bool, true, false, cond, nat_eq, Option, Some, None}

-- the pieces between the bytes `b`, after w was read of the first one
abbrev pub pieces_on : ℕ → List ℕ → List ℕ → List (List ℕ)
pieces_on b w [] = w ∷ []
pieces_on b w (x ∷ xs) = cond (nat_eq x b) (w ∷ pieces_on b [] xs) (pieces_on b (w ++ x ∷ []) xs)

abbrev pub pieces : ℕ → List ℕ → List (List ℕ)
pieces b xs = pieces_on b [] xs

-- what comes before the first byte `b` and behind it, after w was read; none where there is no such byte
abbrev pub split_on : ℕ → List ℕ → List ℕ → Option (List ℕ × List ℕ)
split_on b w [] = None
split_on b w (x ∷ xs) = cond (nat_eq x b) (Some (w, xs)) (split_on b (w ++ x ∷ []) xs)

abbrev pub split_at : ℕ → List ℕ → Option (List ℕ × List ℕ)
split_at b xs = split_on b [] xs

-- what follows a word at the front
abbrev pub after_word : List ℕ → List ℕ → Option (List ℕ)
after_word [] xs = Some xs
after_word (w ∷ ws) [] = None
after_word (w ∷ ws) (x ∷ xs) = cond (nat_eq x w) (after_word ws xs) None

-- nothing follows
abbrev pub is_at_end : Option (List ℕ) → Bool
is_at_end (Some []) = true
is_at_end _ = false

abbrev pub is_word : List ℕ → List ℕ → Bool
is_word word xs = is_at_end (after_word word xs)

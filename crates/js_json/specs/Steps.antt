-- What the steps of reading a pointer give.
use Rattle.std.specs.Prelude.{◌≡◌, ℕ, ◌<◌, List, [], ◌∷◌, length, Option, Some, None, option_map, chars, IsUtf8, Result, Ok, Err}
use Rattle.js_json.specs.declared.fault.RefFault.{RefFault}
use Rattle.js_json.specs.declared.fault.RefFault.TheVariants.{Remote, BadPointer, Missing, NotASchema, Memory}
use Rattle.js_json.specs.Reference.{token_of}

-- the value that is owed, or that none is
abbrev pub ReadsOrRefuses : {A : Type 0} → Option A → Result A RefFault → Type 0
ReadsOrRefuses owed (Ok x) = owed ≡ Some x
ReadsOrRefuses owed (Err BadPointer) = owed ≡ None
ReadsOrRefuses owed (Err Memory) = Unit {0}
ReadsOrRefuses owed (Err Remote) = ⊥
ReadsOrRefuses owed (Err Missing) = ⊥
ReadsOrRefuses owed (Err NotASchema) = ⊥

-- the first character of the token that the text writes, and what is left of the text, which is a shorter text
abbrev pub TakesOrRefuses : (text rest : List ℕ) → Result (Option ℕ) RefFault → Type 0
TakesOrRefuses text rest (Ok None) = token_of (chars text) ≡ Some []
TakesOrRefuses text rest (Ok (Some c)) =
    (token_of (chars text) ≡ option_map (λ t. c ∷ t) (token_of (chars rest)))
    × (length rest < length text) × IsUtf8 rest
TakesOrRefuses text rest (Err BadPointer) = token_of (chars text) ≡ None
TakesOrRefuses text rest (Err Memory) = ⊥
TakesOrRefuses text rest (Err Remote) = ⊥
TakesOrRefuses text rest (Err Missing) = ⊥
TakesOrRefuses text rest (Err NotASchema) = ⊥

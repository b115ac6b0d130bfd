-- In which order the files of a command are begun.
use Rattle.std.specs.Prelude.{◌≡◌, ◌⊎◌, ℕ, List, [], ◌∷◌, ◌++◌, Option, Some, None}
use Rattle.documents.specs.Json.{Json}
use Rattle.js_outside.specs.Told.{Files}
use Rattle.js_report.specs.WholeFile.{HasBytes}
use Rattle.js_input.specs.SchemaReading.{Read, IsSchemaReading}

-- the file of that name was read and is not refused: it is a schema
abbrev pub IsSchemaOn : Option Files → (name : List ℕ) → Type 0
IsSchemaOn told name = (bytes : List ℕ) × HasBytes told name bytes × ((j : Json) × IsSchemaReading bytes (Read j))

-- what was begun is a prefix of the names, in their order; and only after a schema is the next name begun
abbrev pub AreInOrder : Option Files → (names begun : List (List ℕ)) → Type 0
AreInOrder told names [] = Unit {0}
AreInOrder told [] (n ∷ begun) = ⊥
AreInOrder told (name ∷ names) (n ∷ []) = n ≡ name
AreInOrder told (name ∷ names) (n ∷ m ∷ begun) = (n ≡ name) × IsSchemaOn told name × AreInOrder told names (m ∷ begun)

-- over a call that is given these names: what was begun before, and then names in their order
abbrev pub BeginsInOrder : Option Files → (names before after : List (List ℕ)) → Type 0
BeginsInOrder told names before after =
    (begun : List (List ℕ)) × (after ≡ before ++ begun) × AreInOrder told names begun

-- one of the names isn't there, and each before it is a schema
abbrev pub Misses : Files → (names : List (List ℕ)) → Type 0
Misses files [] = ⊥
Misses files (name ∷ names) = (files name ≡ None) ⊎ (IsSchemaOn (Some files) name × Misses files names)

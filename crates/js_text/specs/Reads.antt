-- What is read from the front of bytes, where what is written there is a text.
use Rattle.std.specs.Prelude.{◌≡◌, ℕ, ◌<◌, List, [], ◌∷◌, ◌++◌, ◌≤◌, length, map, Bool, true, ◌&&◌, Option, Some, None}
use Rattle.documents.specs.Tests.{every}
use Rattle.shared_documents.specs.Part.{Part, IsPart, names_rise}
use Rattle.document_texts.specs.Scalars.{joined}
use Rattle.document_texts.specs.PartsText.{part_text, line_text, count_text}
use Rattle.document_texts.specs.PartsRead.{is_told}
use Rattle.document_text_laws.specs.Reader.{Mode, plain, escaped, digits, ends}
use Rattle.js_text.specs.declared.scanner.Place.{Place}
use Rattle.js_text.specs.declared.scanner.Place.TheVariants as P

abbrev pub mode_of : Place → Mode
mode_of P.Plain = plain
mode_of P.Escaped = escaped
mode_of (P.Digits n v) = digits n v

-- the text of x, and what comes behind: they are given
abbrev pub Reads : {A : Type 0} → (A → List ℕ) → (A → Bool) → List ℕ → Option (A × List ℕ) → Type 0
Reads {A} write good text r =
    (x : A) (rest : List ℕ) → good x ≡ true → ends rest ≡ true → text ≡ write x ++ rest → r ≡ Some (x, rest)

-- what is given passes the test, and less of the bytes is left
abbrev pub Takes : {A : Type 0} → (A → Bool) → List ℕ → Option (A × List ℕ) → Type 0
Takes good text None = Unit {0}
Takes good text (Some r) = (good r.0 ≡ true) × (length r.1 < length text)

-- the texts of a list up to its bracket: the list is given
abbrev pub ReadsList : {A : Type 0} → (A → List ℕ) → (A → Bool) → ℕ → List ℕ → Option (List A) → Type 0
ReadsList {A} write good close text r =
    (xs : List A) (rest : List ℕ) → every good xs ≡ true → text ≡ joined (map write xs) ++ close ∷ rest → r ≡ Some xs

-- what is given passes the test
abbrev pub Gives : {A : Type 0} → (A → Bool) → Option A → Type 0
Gives good None = Unit {0}
Gives good (Some x) = good x ≡ true

-- a program's part
abbrev pub is_fine : Part → Bool
is_fine p = is_told p && names_rise p

-- the text of a part and a line feed: the part is given
abbrev pub ReadsPart : List ℕ → Option Part → Type 0
ReadsPart text r =
    (p : Part) → is_told p ≡ true → names_rise p ≡ true → text ≡ part_text p ++ 10 ∷ [] → r ≡ Some p

-- x is given, where the line is that text
abbrev pub Matches : {A : Type 0} → (text line : List ℕ) → A → Option A → Type 0
Matches text line x None = text ≡ line → ⊥
Matches text line x (Some y) = (y ≡ x) × (text ≡ line)

-- a line is that of the part, or of none
abbrev pub ReadsLine : ℕ → List ℕ → Option Part → Type 0
ReadsLine n line None = (p : Part) → is_told p ≡ true → names_rise p ≡ true → line ≡ line_text n p → ⊥
ReadsLine n line (Some p) = (is_fine p ≡ true) × (line ≡ line_text n p)

-- a line counts so many parts, or is none that counts parts
abbrev pub ReadsCount : List ℕ → Option ℕ → Type 0
ReadsCount line None = (n : ℕ) → n ≤ 4294967295 → line ≡ count_text n → ⊥
ReadsCount line (Some n) = line ≡ count_text n

-- one part more, whose line that is
pub record IsTaken (old new : List Part) (line : List ℕ) : Type 0 where
  pub part : Part
  pub is : IsPart (length old) part
  pub told : is_told part ≡ true
  pub line_is : line ≡ line_text (length old) part
  pub taken : new ≡ old ++ part ∷ []

-- no part has the line
abbrev pub IsNoLine : List Part → List ℕ → Type 0
IsNoLine old line =
    (p : Part) → IsPart (length old) p → is_told p ≡ true → line ≡ line_text (length old) p → ⊥

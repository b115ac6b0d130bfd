-- Which bytes are the text of a table, and the line at which bytes that are none stop being the beginning of one.
use Rattle.std.specs.Prelude.{◌≡◌, ℕ, zero, suc, ◌<◌, ◌≤◌, pos, negsuc, List, [], ◌∷◌, ◌++◌, length, Bool, true, ◌&&◌, cond, nat_eq, nat_lt}
use Rattle.documents.specs.Tests.{every, is_scalar}
use Rattle.shared_documents.specs.Part.{Part, null, boolean, number, string, array, object, is_table}
use Rattle.document_texts.specs.PartsText.{parts_text}

abbrev pub is_named : ℕ → Bool
is_named i = nat_lt i 4294967296

abbrev pub is_member : List ℕ × ℕ → Bool
is_member m = every is_scalar m.0 && is_named m.1

-- strings and names are scalar values, numbers lie within 128 bits, and so do the numbers of parts within 32
abbrev pub is_told : Part → Bool
is_told null = true
is_told (boolean b) = true
is_told (number (pos n)) = nat_lt n 170141183460469231731687303715884105728
is_told (number (negsuc n)) = nat_lt n 170141183460469231731687303715884105728
is_told (string s) = every is_scalar s
is_told (array is) = every is_named is
is_told (object ms) = every is_member ms

-- the bytes are the text of that table: of at least one part, and of no more than a number of 32 bits can count
pub record IsRead (ps : List Part) (bytes : List ℕ) : Type 0 where
  pub table : is_table ps ≡ true
  pub told : every is_told ps ≡ true
  pub some : 0 < length ps
  pub few : length ps ≤ 4294967295
  pub text : parts_text ps ≡ bytes

-- with some bytes behind them they are the text of a table
pub record Begins (bytes : List ℕ) : Type 0 where
  pub parts : List Part
  pub behind : List ℕ
  pub read : IsRead parts (bytes ++ behind)

-- how many lines end
abbrev pub line_feeds : List ℕ → ℕ
line_feeds [] = 0
line_feeds (b ∷ bs) = cond (nat_eq b 10) (suc (line_feeds bs)) (line_feeds bs)

-- up to and with so many line feeds; all bytes where there are fewer
abbrev pub first_lines : ℕ → List ℕ → List ℕ
first_lines zero bs = []
first_lines (suc n) [] = []
first_lines (suc n) (b ∷ bs) = b ∷ first_lines (cond (nat_eq b 10) n (suc n)) bs

-- The lines before that one are whole and begin a table's text. Up to and with that line, where it is whole, the bytes
-- don't; where it isn't whole, or isn't there, the bytes are no table's text. Lines are numbered from 1.
pub record IsFault (line : ℕ) (bytes : List ℕ) : Type 0 where
  pub before : ℕ
  pub number : line ≡ suc before
  pub whole : before ≤ line_feeds bytes
  pub begins : Begins (first_lines before bytes)
  pub ends : line ≤ line_feeds bytes → Begins (first_lines line bytes) → ⊥
  pub none : (ps : List Part) → IsRead ps bytes → ⊥

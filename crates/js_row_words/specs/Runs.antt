-- Runs: consecutive characters of one class.
use Rattle.std.specs.Prelude.{◌≡◌, ℕ, ◌+◌, ◌≤◌, ◌<◌, List, [], ◌∷◌, flat_map, true}
use Rattle.std.specs.List.{range_with_len}
use Rattle.patterns.specs.CharSet.{is_scalar}
use Rattle.word_states.specs.Atom.{Atom}
use Rattle.word_states.specs.Classes.{class_of, class_count}
use Rattle.js_row_words.specs.declared.runs.Run.{Run}

-- so many consecutive characters from a first one on
pub record IsBlock (block : ℕ × ℕ) : Type 0 where
  pub small : block.0 + block.1 ≤ 0x110000
  pub scalars : (c : ℕ) → block.0 ≤ c → c < block.0 + block.1 → is_scalar c ≡ true

-- the characters of a block
unfoldable pub block_letters : ℕ × ℕ → List ℕ
block_letters block = range_with_len block.0 block.1

abbrev pub AreBlocks : List (ℕ × ℕ) → Type 0
AreBlocks [] = Unit {0}
AreBlocks (block ∷ blocks) = IsBlock block × AreBlocks blocks

abbrev pub letters_in : Run → List ℕ
letters_in run = range_with_len run.first run.count

abbrev pub spelled : List Run → List ℕ
spelled runs = flat_map letters_in runs

-- consecutive characters of one class
pub record IsRun (atoms : List Atom) (run : Run) : Type 0 where
  pub class : run.class < class_count atoms
  pub some : 0 < run.count
  pub small : run.first + run.count ≤ 0x110000
  pub letters : (c : ℕ) → run.first ≤ c → c < run.first + run.count
      → (is_scalar c ≡ true) × (class_of atoms c ≡ run.class)

abbrev pub AreRuns : List Atom → List Run → Type 0
AreRuns atoms [] = Unit {0}
AreRuns atoms (run ∷ runs) = IsRun atoms run × AreRuns atoms runs

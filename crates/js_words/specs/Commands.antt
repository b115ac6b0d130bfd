-- The command that the words give.
use Rattle.std.specs.Prelude.{ℕ, List, [], ◌∷◌, Option, Some, None, if◌then◌else◌, codes, map, chars, encode_utf8_all, option_and_then}
use Rattle.std.specs.Str.{bytes_eq}
use Rattle.clap.specs.Words.{Row, Text, fault_of, first_of, subcommand_of}
use Rattle.clap.specs.Kinds.{Kinds}
use Rattle.families.specs.Families.{Family, Chain, Wide, Patterns, Tree, family_word, greatest}
use Rattle.js_words.specs.CommandLine.{jsat}
use Rattle.js_words.specs.Numbers.{number_in}

-- what is to be done, with the names of files, and by how many workers
pub data Command : Type 0 where
  -- find a document of a schema
  Sat : (schema : List ℕ) (workers : ℕ) → Command
  -- include the first schema in the second
  Include : (first second : List ℕ) (workers : ℕ) → Command
  -- validate a document
  Valid : (schema document : List ℕ) → Command
  -- check that a certificate shows the first schema to be included in the second
  Check : (first second certificate : List ℕ) (workers : ℕ) → Command
  -- print a schema's core table
  Norm : (schema : List ℕ) → Command
  -- include the first schema that a family has at a number in the second
  Gen : (family : Family) (number workers : ℕ) → Command

-- ---- of the texts that the words give to a subcommand; where one is missing or no number as it must be, there is none

abbrev pub sat_of : Option Text → Option ℕ → Option Command
sat_of (Some a) (Some w) = Some (Sat (chars a) w)
sat_of _ _ = None

abbrev pub include_of : Option Text → Option Text → Option ℕ → Option Command
include_of (Some a) (Some b) (Some w) = Some (Include (chars a) (chars b) w)
include_of _ _ _ = None

abbrev pub valid_of : Option Text → Option Text → Option Command
valid_of (Some a) (Some d) = Some (Valid (chars a) (chars d))
valid_of _ _ = None

abbrev pub check_of : Option Text → Option Text → Option Text → Option ℕ → Option Command
check_of (Some a) (Some b) (Some c) (Some w) = Some (Check (chars a) (chars b) (chars c) w)
check_of _ _ _ _ = None

abbrev pub norm_of : Option Text → Option Command
norm_of (Some a) = Some (Norm (chars a))
norm_of None = None

-- the family of a word
abbrev pub family_of : Text → Option Family
family_of text = if bytes_eq text (family_word Chain) then Some Chain
    else (if bytes_eq text (family_word Wide) then Some Wide
    else (if bytes_eq text (family_word Patterns) then Some Patterns
    else (if bytes_eq text (family_word Tree) then Some Tree else None)))

abbrev pub gen_with : Family → Option ℕ → Option ℕ → Option Command
gen_with family (Some n) (Some w) = Some (Gen family n w)
gen_with family _ _ = None

-- the number is one that the family has schemas at
abbrev pub gen_to : Option Family → Text → Option ℕ → Option Command
gen_to (Some family) n w = gen_with family (number_in 1 (greatest family) n) w
gen_to None n w = None

abbrev pub gen_of : Option Text → Option Text → Option ℕ → Option Command
gen_of (Some family) (Some n) w = gen_to (family_of family) n w
gen_of _ _ w = None

-- ---- the command of the matches of a subcommand

abbrev pub workers_in : List Row → Option ℕ
workers_in rows = option_and_then (number_in 1 64) (first_of (codes "workers") rows)

abbrev pub sat_in : List Row → Option Command
sat_in rows = sat_of (first_of (codes "first") rows) (workers_in rows)

abbrev pub include_in : List Row → Option Command
include_in rows = include_of (first_of (codes "first") rows) (first_of (codes "second") rows) (workers_in rows)

abbrev pub valid_in : List Row → Option Command
valid_in rows = valid_of (first_of (codes "first") rows) (first_of (codes "document") rows)

abbrev pub check_in : List Row → Option Command
check_in rows = check_of (first_of (codes "first") rows) (first_of (codes "second") rows)
    (first_of (codes "certificate") rows) (workers_in rows)

abbrev pub norm_in : List Row → Option Command
norm_in rows = norm_of (first_of (codes "first") rows)

abbrev pub gen_in : List Row → Option Command
gen_in rows = gen_of (first_of (codes "kind") rows) (first_of (codes "number") rows) (workers_in rows)

-- ---- the command of the words

-- the command of the matches of the subcommand with that name
abbrev pub named : Text → List Row → Option Command
named word rows = if bytes_eq word (codes "sat") then sat_in rows
    else (if bytes_eq word (codes "include") then include_in rows
    else (if bytes_eq word (codes "valid") then valid_in rows
    else (if bytes_eq word (codes "check") then check_in rows
    else (if bytes_eq word (codes "norm") then norm_in rows
    else (if bytes_eq word (codes "gen") then gen_in rows else None)))))

abbrev pub matched_by : Text × List Row → Option Command
matched_by p = named p.0 p.1

abbrev pub matched : Option (Text × List Row) → Option Command
matched met = option_and_then matched_by met

-- with a fault there is no command
abbrev pub without_fault : Kinds → Option Command → Option Command
without_fault [] c = c
without_fault (k ∷ ks) c = None

-- the command that the matches of the texts name, if `clap` finds no fault in the texts
unfoldable pub text_command : List Text → Option Command
text_command texts = without_fault (fault_of jsat texts) (matched (subcommand_of jsat texts))

-- the command of the words, if they are one. `clap` reads them in UTF-8
abbrev pub command : List (List ℕ) → Option Command
command words = text_command (map encode_utf8_all words)

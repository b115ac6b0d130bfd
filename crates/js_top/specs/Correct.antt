-- The theorem: what is written for two schemas, and what `check` makes of a certificate.
use Rattle.std.specs.Prelude.{◌≡◌, ◌⊎◌, ℕ, List, true, Option, Some, None}
use Rattle.std.specs.Io.KnownBytes.{Appends}
use Rattle.documents.specs.Json.{Json}
use Rattle.js_words.specs.Commands.{command}
use Rattle.js_words.specs.PlainWords.{Plain, is_plain, words_of, meant}
use Rattle.js_outside.specs.Told.{Files}
use Rattle.js_commands.specs.CheckOutcome.{judgement_of}
use Rattle.js_commands.specs.IncludeMeaning.{IsCertificate}
use Rattle.js_commands.specs.Meaning.{PassesCount}
use Rattle.js_commands.specs.ReadEntries.{entries_read}
use Rattle.js_top.specs.Meaning.{AreNamed, IsCounterexample, IsLimit, PassLimit}
use Rattle.js_top.specs.Checking.{AreNamedFiles, IsToldVerdict, IsToldTooLong}
use Rattle.js_top.specs.declared.status.Status.{Status}

-- over these files, from what was in the sink to what is there now
pub record Correct (files : Files) (words : List (List ℕ)) (old new : Option (List ℕ)) (status : Status) : Type 0 where
  -- what is written
  pub text : List ℕ
  -- it is put behind what was in the sink, and nothing else is
  pub written : Appends old new text
  -- For every two schemas that the words of `include` name, and for the schema that those of `sat` name and the value
  -- `false`, it is one of three. It is a document, which is read back from the text and is valid for the first schema
  -- and not for the second. Or it is bytes that `check` accepts as a certificate for the two, and then every document
  -- that is valid for the first is valid for the second. Or it is the line of a limit that is passed.
  pub answered : (a b : Json) → AreNamed (Some files) words a b
      → IsCounterexample a b text ⊎ IsCertificate a b text ⊎ IsLimit a b text
  -- A limit is reported wherever one is passed: so the other two come exactly where none is.
  pub limited : (a b : Json) → AreNamed (Some files) words a b → PassLimit a b → IsLimit a b text
  -- What a limit that is passed counts is more than its number: at the goal that passes it, or where no goal does, of
  -- all goals that were explored together.
  pub counted : (a b : Json) → AreNamed (Some files) words a b → (limit : PassLimit a b)
      → PassesCount (entries_read a) (entries_read b) limit.0 limit.1
  -- Plain words, a command with its names and options, are the command that they mean, whatever else `clap` reads.
  pub plain : (p : Plain) → is_plain p ≡ true → words ≡ words_of p → command words ≡ Some (meant p)
  -- For every two schemas and bytes that the words of `check` name, it is the line of the verdict on the bytes, with
  -- the verdict's status: the line `accepted` where they are accepted, and then every document that is valid for the
  -- first schema is valid for the second; else the first line that breaks a rule, with the least such rule. Or there
  -- are more bytes than a file may have.
  pub checked : (a b : Json) (bytes : List ℕ) → AreNamedFiles (Some files) words a b bytes
      → IsToldVerdict a b (judgement_of a b bytes) old new status ⊎ IsToldTooLong bytes old new status

-- where files are known
abbrev pub IsCorrect : Option Files → List (List ℕ) → Option (List ℕ) → Option (List ℕ) → Status → Type 0
IsCorrect None words old new status = Unit {0}
IsCorrect (Some files) words old new status = Correct files words old new status

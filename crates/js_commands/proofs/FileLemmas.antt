-- Files that have the bytes that were read, whether or not the shelf's files are known.
use Rattle.std.proofs.Common.{◌≡◌, ℕ, List, Option, Some, None, Result, Ok, Err, OnErr, encode_utf8_all, refl}
use Rattle.js_outside.specs.Told.{Files}
use Rattle.js_report.specs.WholeFile.{HasBytes}
use Rattle.js_input.specs.ToldTwice.{AreFiles}

-- the file of one name has the bytes that were read
pub record HaveFile (told : Option Files) (name bytes : List ℕ) : Type 0 where
  pub files : Files
  pub are_files : AreFiles told files files
  pub has : files (encode_utf8_all name) ≡ Some bytes

pub HaveFile-has : (told : Option Files) (name bytes : List ℕ) → HasBytes told (encode_utf8_all name) bytes
    → HaveFile told name bytes
HaveFile-has None name bytes has = record { files = λ n. Some bytes; are_files = tt; has = refl }
HaveFile-has (Some files) name bytes has = record { files = files; are_files = (refl, refl); has = has }

-- of two names, one read after the other
pub record HaveFiles (told : Option Files) (first second one two : List ℕ) : Type 0 where
  pub files : Files
  pub later : Files
  pub are_files : AreFiles told files later
  pub has_first : files (encode_utf8_all first) ≡ Some one
  pub has_second : later (encode_utf8_all second) ≡ Some two

pub HaveFiles-has : (told : Option Files) (first second one two : List ℕ)
    → HasBytes told (encode_utf8_all first) one → HasBytes told (encode_utf8_all second) two
    → HaveFiles told first second one two
HaveFiles-has None first second one two f g =
    record {
      files = λ n. Some one;
      later = λ n. Some two;
      are_files = tt;
      has_first = refl;
      has_second = refl;
    }
HaveFiles-has (Some files) first second one two f g =
    record { files = files; later = files; are_files = (refl, refl); has_first = f; has_second = g }

-- what holds anyway holds after an error
pub OnErr-anyway : {A E : Type 0} (P : Type 0) (r : Result A E) → P → OnErr r P
OnErr-anyway P (Ok x) p = tt
OnErr-anyway P (Err e) p = p

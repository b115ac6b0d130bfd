-- What the report of `gen` is.
use Rattle.std.proofs.Common.{◌≡◌, ℕ, List, [], Option, Some, None, refl, subst}
use Rattle.std.specs.Io.KnownBytes.{Appends}
use Rattle.std.specs.Prelude.{IsSome}
use Rattle.families.specs.Families.{Family}
use Rattle.js_outside.specs.Told.{Files}
use Rattle.js_words.specs.Commands.{Command, Sat, Include, Valid, Check, Norm, Gen, command}
use Rattle.js_top.specs.Names.{of_gen, files_of, gen_names, file_names, IsGen}
use Rattle.js_top.specs.Report.{Report, IsGenReport, IsReportOf, IsReport}
use Rattle.js_top.specs.Generating.{WritesSummary}
use Rattle.js_top.specs.declared.status.Status.{Status}

-- the family and the number of `gen`
named_by : (words : List (List ℕ)) → IsGen words → (f : Family) × (n : ℕ) × (gen_names words ≡ Some (f, n))
named_by words gen = go (gen_names words) refl gen where
  go : (o : Option (Family × ℕ)) → gen_names words ≡ o → IsSome o
      → (f : Family) × (n : ℕ) × (gen_names words ≡ Some (f, n))
  go (Some (f, n)) e i = (f, n, e)
  go None e i = cc

-- no file is named
pub gen-fileless : (words : List (List ℕ)) → IsGen words → file_names words ≡ []
gen-fileless words gen = go (command words) gen where
  go : (c : Option Command) → IsSome (of_gen c) → files_of c ≡ []
  go None i = cc
  go (Some (Sat x w)) i = cc
  go (Some (Include x y w)) i = cc
  go (Some (Valid x y)) i = cc
  go (Some (Check x y z w)) i = cc
  go (Some (Norm x)) i = cc
  go (Some (Gen f n w)) i = refl

-- the report of these words is that of `gen`
report-gen : (told : Option Files) (words : List (List ℕ)) (r : Report) (f : Family) (n : ℕ)
    → gen_names words ≡ Some (f, n) → IsReport told words r → IsGenReport f n r
report-gen told words r f n named is = go (command words) named is where
  go : (c : Option Command) → of_gen c ≡ Some (f, n) → IsReportOf told c r → IsGenReport f n r
  go None e is = cc
  go (Some (Sat x w)) e is = cc
  go (Some (Include x y w)) e is = cc
  go (Some (Valid x y)) e is = cc
  go (Some (Check x y z w)) e is = cc
  go (Some (Norm x)) e is = cc
  go (Some (Gen x y w)) e is =
      let same : ◌≡◌ {A = Family × ℕ} (x, y) (f, n) = cc in subst (λ m. IsGenReport m.0 m.1 r) same is

pub means-summary : (told : Option Files) (words : List (List ℕ)) (old new : Option (List ℕ)) (text : List ℕ)
    (status : Status)
    → IsReport told words (record { text = text; status = status }) → IsGen words → Appends old new text
    → WritesSummary words old new status
means-summary told words old new text status is gen appends =
    let (f, n, named) = named_by words gen in
    record {
      family = f;
      number = n;
      named = named;
      text = text;
      written = appends;
      report = report-gen told words (record { text = text; status = status }) f n named is;
    }

-- What a run writes.
use Rattle.std.specs.Prelude.{◌≡◌, ◌⊎◌, ℕ, List, Option, codes}
use Rattle.std.specs.Io.KnownBytes.{Appends}
use Rattle.documents.specs.Json.{Json}
use Rattle.js_outside.specs.Counts.{Rose}
use Rattle.js_outside.specs.Told.{Files}
use Rattle.js_report.specs.Written.{AppendsPrefix}
use Rattle.js_top.specs.Names.{IsCheckBySeveral}
use Rattle.js_top.specs.Report.{Report, printed, IsReport}
use Rattle.js_top.specs.Meaning.{AreNamed, IsAsked, IsRefusal}
use Rattle.js_top.specs.declared.status.Status.{Status}
use Rattle.js_top.specs.declared.status.Status.TheVariants.{Other, ReadFault, Memory}

-- a fault of reading is reported. But `check` by several workers judges the lines that wait before it, so a rejection
-- may be reported, or that memory was refused
abbrev pub IsReadNoticed : List (List ℕ) → Status → Type 0
IsReadNoticed words status = (status ≡ ReadFault) ⊎ (IsCheckBySeveral words × ((status ≡ Other) ⊎ (status ≡ Memory)))

-- a prefix of the report: the one of a failed read where the shelf's count rose, and else the one of the files. Or the
-- shelf's count rose for `check` by several workers, and a line is rejected
abbrev pub WritesPart : Option Files → List (List ℕ) → ℕ → ℕ → Option (List ℕ) → Option (List ℕ) → Type 0
WritesPart told words before after old new =
    (r : Report) × AppendsPrefix old new r.text
    × ((Rose before after × (r ≡ printed (codes "readfault") ReadFault)) ⊎ ((after ≡ before) × IsReport told words r)
    ⊎ (Rose before after × IsCheckBySeveral words × (r.status ≡ Other) × IsReport told words r))

-- the whole report, with its status
abbrev pub WritesReport : Option Files → List (List ℕ) → Option (List ℕ) → Option (List ℕ) → Status → Type 0
WritesReport told words old new status =
    (text : List ℕ) × Appends old new text × IsReport told words (record { text = text; status = status })

-- a text of which a fact holds for the two schemas that the words name
abbrev pub WritesMeaning : Option Files → List (List ℕ) → Option (List ℕ) → Option (List ℕ)
    → (Json → Json → List ℕ → Type 0) → Type 0
WritesMeaning told words old new P =
    (text : List ℕ) × Appends old new text × ((a : Json) × (b : Json) × AreNamed told words a b × P a b text)

-- a text of which a fact holds for the schema that the words of `sat` name
abbrev pub WritesAsked : Option Files → List (List ℕ) → Option (List ℕ) → Option (List ℕ)
    → (Json → List ℕ → Type 0) → Type 0
WritesAsked told words old new P =
    (text : List ℕ) × Appends old new text × ((a : Json) × IsAsked told words a × P a text)

-- the line of the first refusal in the order of work
abbrev pub WritesRefusal : Option Files → List (List ℕ) → Option (List ℕ) → Option (List ℕ) → Type 0
WritesRefusal told words old new = (text : List ℕ) × Appends old new text × IsRefusal told words text

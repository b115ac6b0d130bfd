-- What has become of the lines that were taken.
use Rattle.std.specs.Prelude.{◌≡◌, ℕ, suc, ◌+◌, List, ◌++◌, length, ⊤}
use Rattle.positions.specs.Position.{Position}
use Rattle.certificate_lines.specs.Line.{Line}
use Rattle.verdicts.specs.Verdict.{Stage, Start, Verdict, Rejected, judged}

pub data Standing : Type 0 where
  -- so many lines were taken, and led to the stage
  Going : Stage → ℕ → Standing
  -- the number of a line, and the least rule that it breaks
  Broken : ℕ → ℕ → Standing
  -- memory was refused
  Refused : Standing

-- so many lines led from the start to the stage: whatever comes after them, it is judged from there
pub record LeadTo (T : List Position) (a b : ℕ) (ls : List Line) (s : Stage) (n : ℕ) : Type 0 where
  pub count : length ls ≡ n
  pub judged_on : (finish : Stage → ℕ → Verdict) (more : List Line)
      → judged T a b finish Start 1 (ls ++ more) ≡ judged T a b finish s (suc n) more

-- the lines lead from a stage to another one, whatever comes after them
abbrev pub LeadsOver : List Position → ℕ → ℕ → Stage → List Line → Stage → Type 0
LeadsOver T a b s ls u = (finish : Stage → ℕ → Verdict) (k : ℕ) (more : List Line)
    → judged T a b finish s k (ls ++ more) ≡ judged T a b finish u (k + length ls) more

-- whatever comes after the lines, they are rejected
abbrev pub AreRejected : List Position → ℕ → ℕ → List Line → ℕ → ℕ → Type 0
AreRejected T a b ls k r =
    (finish : Stage → ℕ → Verdict) (more : List Line) → judged T a b finish Start 1 (ls ++ more) ≡ Rejected k r

-- it stands for the lines; want of memory says nothing
abbrev pub Stands : List Position → ℕ → ℕ → Standing → List Line → Type 0
Stands T a b (Going s n) ls = LeadTo T a b ls s n
Stands T a b (Broken k r) ls = AreRejected T a b ls k r
Stands T a b Refused ls = ⊤

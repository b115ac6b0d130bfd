-- What faults say of a line of a row.
use Rattle.std.specs.Prelude.{◌≡◌, ◌<◌, ℕ, List, [], take, length, get_or, Result, Ok, Err}
use Rattle.word_states.specs.Atom.{Atom}
use Rattle.word_states.specs.WordState.{have_same_state}
use Rattle.verdicts.specs.Rules.{wrong_target}
use Rattle.verdicts.specs.RowLines.{target, targets, extend}
use Rattle.js_check_rows.specs.declared.fault.RowFault.{RowFault}
use Rattle.js_check_rows.specs.declared.fault.RowFault.TheVariants as R

module _ (atoms : List Atom) (count : ℕ) (ws xs : List (List ℕ)) (ts : List ℕ) where
  -- the target of class k is wrong, and those of the classes before are right
  pub record IsFirstWrong (k : ℕ) : Type 0 where
    pub class : k < length ts
    pub words : List (List ℕ)
    pub before : targets (have_same_state atoms) (extend atoms) [] count ws (take k xs) (take k ts) ≡ Ok words
    pub wrong : target (have_same_state atoms) (extend atoms) [] count words (get_or xs k []) (get_or ts k 0)
        ≡ Err wrong_target

  abbrev pub LineTells : RowFault → Type 0
  LineTells (R.Step k) = IsFirstWrong k
  LineTells R.Memory = Unit {0}
  LineTells _ = ⊥

-- what a fault says of the target by one class
abbrev pub ClassTells : ℕ → Result (List (List ℕ)) ℕ → RowFault → Type 0
ClassTells class judged (R.Step k) = (k ≡ class) × (judged ≡ Err wrong_target)
ClassTells class judged R.Memory = Unit {0}
ClassTells class judged _ = ⊥

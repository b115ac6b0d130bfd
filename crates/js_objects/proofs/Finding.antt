-- The cells that are found for a set are those of the rows of its automaton, and its faults are the limits passed.
use Rattle.std.proofs.Common.{◌≡◌, ℕ, ◌≤◌, List, length, Result, Ok, Err, Some, None, Option, IfOk, OnOk, IfErr, ap, sym, ◌∙◌, subst}
use Rattle.std.specs.Result.{IsErrAnd}
use Rattle.word_states.specs.Atom.{Atom}
use Rattle.word_states.specs.Classes.{characters}
use Rattle.word_states.specs.Rows.{AreRows}
use Rattle.positions.specs.Position.{Position}
use Rattle.goals.specs.Signed.{Signed}
use Rattle.cells.specs.Cells.{Cells, cells}
use Rattle.alternatives.specs.Limit.{LimitKind, Positions, Classes, States, most_states, most_words}
use Rattle.finders.specs.Limits.{rows_found, limit_passed, unless_passed}
use Rattle.finders.specs.WordsFound.{far}
use Rattle.finders.specs.Names.{atoms_of_names, cells_of}
use Rattle.finder_laws.proofs.RowsFound.{rows_grown}
use Rattle.js_automaton.specs.AutomatonView.{atoms_of, rows_of}
use Rattle.js_automaton.specs.declared.automaton.Automaton.{Automaton}
use Rattle.js_automaton.specs.declared.fault.AutoFault.{AutoFault}
use Rattle.js_automaton.specs.declared.fault.AutoFault.TheVariants as F
use Rattle.js_kept_automaton.specs.Outcomes.{passed, Passes}
use Rattle.js_objects.specs.Leaves.{NamesFail}
use Rattle.js_objects.specs.Steps.{IsOfNames}

module _ (T : List Position) (S : List Signed) where
  abbrev by_rows : List (List ℕ) → Cells
  by_rows L = cells characters far most_words T S L

  answer_is : (l : Option LimitKind) → limit_passed characters most_states (atoms_of_names T S) ≡ l
      → cells_of T S ≡ unless_passed l (by_rows (rows_found characters most_states (atoms_of_names T S)))
  answer_is l e =
      ap (λ l. unless_passed l (by_rows (rows_found characters most_states (atoms_of_names T S)))) e

  -- the faults of the automaton
  pub names-fail : (atoms : List Atom) → atoms ≡ atoms_of_names T S → (fault : AutoFault) → Passes atoms fault
      → NamesFail (cells_of T S) fault
  names-fail atoms is F.LimitPositions p =
      answer_is (Some Positions) (subst (λ z. passed z ≡ Some Positions) is p)
  names-fail atoms is F.LimitClasses p = answer_is (Some Classes) (subst (λ z. passed z ≡ Some Classes) is p)
  names-fail atoms is F.LimitStates p = answer_is (Some States) (subst (λ z. passed z ≡ Some States) is p)
  names-fail atoms is F.Memory p = tt

  -- where the automaton has rows, the cells are found by these
  pub names-found : (atoms : List Atom) → atoms ≡ atoms_of_names T S → (L : List (List ℕ)) → AreRows atoms L
      → length L ≤ most_states → passed atoms ≡ None → cells_of T S ≡ Ok (by_rows L)
  names-found atoms is L rows few none =
      answer_is None (subst (λ z. passed z ≡ None) is none)
      ∙ ap (λ K. Ok (by_rows K))
      (rows_grown (atoms_of_names T S) most_states L (subst (λ z. AreRows z L) is rows) few)

  -- an automaton of the set's atoms
  pub names-of : (a : Automaton) (atoms : List Atom) → atoms_of a ≡ atoms → atoms ≡ atoms_of_names T S
      → passed atoms ≡ None → IsOfNames T S a
  names-of a atoms of is none = record {
    atoms = of ∙ is;
    found = names-found atoms is (rows_of a) (subst (λ z. AreRows z (rows_of a)) of a.found.1.0) a.found.1.1 none;
  }

  -- what is built

  pub built-of : {R : Type 0} (r : Result R AutoFault) (now : R → Automaton) (atoms : List Atom)
      → atoms ≡ atoms_of_names T S → IfOk r (λ a. atoms_of (now a) ≡ atoms) → OnOk r (passed atoms ≡ None)
      → IfOk r (λ a. IsOfNames T S (now a))
  built-of (Err f) now atoms is of none = tt
  built-of (Ok a) now atoms is of none = names-of (now a) atoms of is none

  pub built-fails : {R : Type 0} (r : Result R AutoFault) (atoms : List Atom) → atoms ≡ atoms_of_names T S
      → IfErr r (λ f. Passes atoms f) → IfErr r (λ f. NamesFail (cells_of T S) f)
  built-fails (Ok a) atoms is p = tt
  built-fails (Err f) atoms is p = names-fail atoms is f p

-- want of memory says nothing
pub memory-fails : {A : Type 0} (r : Result A AutoFault) (found : Result Cells LimitKind)
    → IsErrAnd r (λ f. f ≡ F.Memory) → IfErr r (λ f. NamesFail found f)
memory-fails (Ok y) found h = absurd h
memory-fails (Err f) found h = subst (λ z. NamesFail found z) (sym h) tt

-- What is built of atoms is what may be kept of them, but for want of memory.
use Rattle.std.proofs.Common.{◌≡◌, ◌<◌, ◌≤◌, suc, List, map, None, Some, option_map, Result, Ok, Err, IfOk, OnOk, IfErr, true≢false, false, refl, ap, sym, ◌∙◌, subst}
use Rattle.std.specs.Result.{IsErrAnd}
use Rattle.word_states.specs.Atom.{Atom}
use Rattle.word_states.specs.AtomPositions.{positions_of}
use Rattle.word_states.specs.Classes.{class_count}
use Rattle.word_states.specs.Rows.{AreRows, HaveStates}
use Rattle.alternatives.specs.Limit.{most_positions, most_classes, most_states}
use Rattle.finder_laws.proofs.RowsFound.{passes_positions, passes_classes, passes_states, passes_none}
use Rattle.js_nfa.specs.AtomView.{atom_view}
use Rattle.js_automaton.specs.AutomatonView.{atoms_of, rows_of}
use Rattle.js_automaton.specs.declared.automaton.Automaton.{Automaton}
use Rattle.js_automaton.specs.declared.fault.AutoFault.{AutoFault}
use Rattle.js_automaton.specs.declared.fault.AutoFault.TheVariants as F
use Rattle.js_kept_automaton.specs.Outcomes.{passed, Passes, IsOutcome, is_lacking}
use Rattle.js_kept_automaton.specs.KeptView.{kept_atoms}
use Rattle.js_kept_automaton.specs.declared.kept.Built.{Built}
use Rattle.js_kept_automaton.specs.declared.kept.KeptAutomaton.{KeptAutomaton}

module _ (atoms : List Atom) where
  pub built-is : (r : Result Automaton AutoFault) → IfOk r (λ a. atoms_of a ≡ atoms)
      → OnOk r (positions_of atoms ≤ most_positions) → OnOk r (class_count atoms ≤ most_classes)
      → IfErr r (λ f. f ≡ F.LimitPositions → most_positions < positions_of atoms)
      → IfErr r (λ f. f ≡ F.LimitClasses
      → (positions_of atoms ≤ most_positions) × (most_classes < class_count atoms))
      → IfErr r (λ f. f ≡ F.LimitStates → (positions_of atoms ≤ most_positions) × (class_count atoms ≤ most_classes)
      × HaveStates atoms (suc most_states))
      → is_lacking r ≡ false → IsOutcome atoms r
  built-is (Ok a) is positions classes p c s n = (
    is,
    passes_none atoms most_states positions classes (rows_of a)
        (subst (λ z. AreRows z (rows_of a)) is a.found.1.0) a.found.1.1,
  )
  built-is (Err F.LimitPositions) is positions classes p c s n = passes_positions atoms most_states (p refl)
  built-is (Err F.LimitClasses) is positions classes p c s n = passes_classes atoms most_states (c refl).0 (c refl).1
  built-is (Err F.LimitStates) is positions classes p c s n =
      passes_states atoms most_states (s refl).0 (s refl).1 (s refl).2
  built-is (Err F.Memory) is positions classes p c s n = absurd (true≢false n)

-- a limit that is kept is one that the atoms pass
limit-passes : (atoms : List Atom) (f : AutoFault) → IsOutcome atoms (Err f) → Passes atoms f
limit-passes atoms F.LimitPositions e = e
limit-passes atoms F.LimitClasses e = e
limit-passes atoms F.LimitStates e = e
limit-passes atoms F.Memory e = absurd e

-- what is kept of atoms, for those that were given

some-one : {A : Type 0} (x y : A) → Some x ≡ Some y → x ≡ y
some-one x y e = cc

pub own-atoms : (k : KeptAutomaton) (b : Built) → k.last ≡ Some b → (atoms : List Atom) → kept_atoms k ≡ Some atoms
    → map atom_view b.atoms.items ≡ atoms
own-atoms k b e atoms is =
    some-one (map atom_view b.atoms.items) atoms
    (sym (ap (option_map (λ (b : Built). map atom_view b.atoms.items)) e) ∙ is)

module _ (own atoms : List Atom) (r : Result Automaton AutoFault) (h : IsOutcome own r) (same : own ≡ atoms) where
  pub kept-is : (a : Automaton) → r ≡ Ok a → (atoms_of a ≡ atoms) × (passed atoms ≡ None)
  kept-is a e = subst (λ z. IsOutcome z (Ok a)) same (subst (IsOutcome own) e h)

  pub kept-passes : (f : AutoFault) → r ≡ Err f → Passes atoms f
  kept-passes f e = limit-passes atoms f (subst (λ z. IsOutcome z (Err f)) same (subst (IsOutcome own) e h))

-- want of memory says nothing
pub memory-passes : {A : Type 0} (r : Result A AutoFault) (atoms : List Atom) → IsErrAnd r (λ f. f ≡ F.Memory)
    → IfErr r (λ f. Passes atoms f)
memory-passes (Ok a) atoms h = absurd h
memory-passes (Err f) atoms h = subst (λ z. Passes atoms z) (sym h) tt

pub not-ok : {A E : Type 0} (r : Result A E) (P : A → Type 0) (Q : E → Type 0) → IsErrAnd r Q → IfOk r P
not-ok (Ok a) P Q h = absurd h
not-ok (Err f) P Q h = tt

-- What is found by the automaton of a set is the word of the set.
use Rattle.std.proofs.Common.{◌≡◌, ℕ, ◌<◌, ◌≤◌, Bool, true, false, cond, List, [], length, get_or, Option, Some, None, Result, Ok, Err, IfErr, ap, ap₂, sym, ◌∙◌, subst}
use Rattle.std.specs.Result.{IsErrAnd}
use Rattle.word_states.specs.Atom.{Atom}
use Rattle.word_states.specs.Classes.{characters}
use Rattle.word_states.specs.Rows.{AreRows}
use Rattle.positions.specs.Position.{Position}
use Rattle.goals.specs.Signed.{Signed}
use Rattle.frames.specs.Frame.{is_at_end}
use Rattle.alternatives.specs.Limit.{LimitKind, Positions, Classes, States, most_states}
use Rattle.finders.specs.Limits.{limit_passed, unless_passed}
use Rattle.finders.specs.WordsFound.{first_of}
use Rattle.finders.specs.Strings.{lower, below, string_atoms, is_wanted, if_below, strings_of}
use Rattle.finder_laws.proofs.Strings.{wanted_words}
use Rattle.finder_laws.proofs.FirstRow.{none_first, row_first}
use Rattle.js_automaton.specs.declared.fault.AutoFault.{AutoFault}
use Rattle.js_automaton.specs.declared.fault.AutoFault.TheVariants as F
use Rattle.js_kept_automaton.specs.Outcomes.{passed, Passes}
use Rattle.js_strings.specs.Answers.{FaultSays}

module _ (T : List Position) (S : List Signed) where
  pub crossed_none : is_at_end (lower T S) (below T S) ≡ true → strings_of T S ≡ Ok None
  crossed_none e =
      ap (λ b. cond b (Ok None)
      (unless_passed (limit_passed characters most_states (string_atoms T S))
      (if_below (below T S) (first_of (wanted_words T S))))) e

  module _ (open_ : is_at_end (lower T S) (below T S) ≡ false) where
    answer_is : (l : Option LimitKind) → limit_passed characters most_states (string_atoms T S) ≡ l
        → strings_of T S ≡ unless_passed l (if_below (below T S) (first_of (wanted_words T S)))
    answer_is l e =
        ap (λ b. cond b (Ok None)
        (unless_passed (limit_passed characters most_states (string_atoms T S))
        (if_below (below T S) (first_of (wanted_words T S))))) open_
        ∙ ap (λ l. unless_passed l (if_below (below T S) (first_of (wanted_words T S)))) e

    -- the faults of the automaton
    pub fault_says : (atoms : List Atom) → atoms ≡ string_atoms T S → (fault : AutoFault) → Passes atoms fault
        → FaultSays (strings_of T S) fault
    fault_says atoms is F.LimitPositions p =
        answer_is (Some Positions) (subst (λ z. passed z ≡ Some Positions) is p)
    fault_says atoms is F.LimitClasses p = answer_is (Some Classes) (subst (λ z. passed z ≡ Some Classes) is p)
    fault_says atoms is F.LimitStates p = answer_is (Some States) (subst (λ z. passed z ≡ Some States) is p)
    fault_says atoms is F.Memory p = tt

    module _ (atoms : List Atom) (is : atoms ≡ string_atoms T S) (L : List (List ℕ)) (rows : AreRows atoms L)
        (few : length L ≤ most_states) (none : passed atoms ≡ None) (asks : List ℕ → Bool)
        (asked : (w : List ℕ) → asks w ≡ is_wanted T S w) where
      own_rows : AreRows (string_atoms T S) L
      own_rows = subst (λ z. AreRows z L) is rows

      not_passed : passed (string_atoms T S) ≡ None
      not_passed = subst (λ z. passed z ≡ None) is none

      pub none_answer : ((j : ℕ) → j < length L → asks (get_or L j []) ≡ false) → strings_of T S ≡ Ok None
      none_answer each =
          answer_is None not_passed
          ∙ ap (λ o. Ok (if_below (below T S) o))
          (none_first T S L own_rows few (λ j l. sym (asked (get_or L j [])) ∙ each j l))

      pub row_answer : (row : ℕ) → row < length L → asks (get_or L row []) ≡ true
          → ((j : ℕ) → j < row → asks (get_or L j []) ≡ false)
          → strings_of T S ≡ Ok (if_below (below T S) (Some (get_or L row [])))
      row_answer row l t before =
          answer_is None not_passed
          ∙ ap (λ o. Ok (if_below (below T S) o))
          (row_first T S L own_rows few row l (sym (asked (get_or L row [])) ∙ t)
          (λ j m. sym (asked (get_or L j [])) ∙ before j m))

pub end_of : (T : List Position) (S : List Signed) (least : ℕ) (end : Option ℕ) (r b : Bool) → least ≡ lower T S
    → end ≡ below T S → r ≡ is_at_end least end → r ≡ b
    → is_at_end (lower T S) (below T S) ≡ b
end_of T S least end r b l e i h = ap₂ (λ x y. is_at_end x y) (sym l) (sym e) ∙ sym i ∙ h

-- want of memory says nothing
pub memory_says : {A : Type 0} (r : Result A AutoFault) (x : Result (Option (List ℕ)) LimitKind)
    → IsErrAnd r (λ f. f ≡ F.Memory) → IfErr r (λ f. FaultSays x f)
memory_says (Ok y) x h = absurd h
memory_says (Err f) x h = subst (λ z. FaultSays x z) (sym h) tt

-- a fault that is passed on
pub passed_says : {A : Type 0} (r : Result A AutoFault) (x : Result (Option (List ℕ)) LimitKind) (fault : AutoFault)
    → IsErrAnd r (λ f. f ≡ fault) → FaultSays x fault
    → IfErr r (λ f. FaultSays x f)
passed_says (Ok y) x fault h s = absurd h
passed_says (Err f) x fault h s = subst (λ z. FaultSays x z) (sym h) s

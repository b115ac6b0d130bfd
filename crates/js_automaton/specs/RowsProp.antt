-- There is one list of rows, and that a state is that of a word is a fact. So that rows are found is one.
use Rattle.std.specs.Prelude.{◌≡◌, ◌⊎◌, ℕ, List, [], ◌∷◌}
use Rattle.std.proofs.Common.{inl, inr, refl}
use Rattle.std.specs.Coded.{Coded, Coded-set, code_by, coded_list, coded_option, coded_ℕ, coded_bool, coded⊎, le_prop, Unit-prop}
use base.Stored.{coded_unit}
use mathlib.Core.HLevel.{Σ_prop_path}
use Rattle.word_states.specs.Atom.{Atom}
use Rattle.word_states.specs.PatternState.{PatternState, done, reading}
use Rattle.word_laws.proofs.RowLaws.{rows_one}
use Rattle.js_automaton.specs.declared.state.TupleState.{TupleState}
use Rattle.js_automaton.specs.Tuple.{IsStateOf}
use Rattle.js_automaton.specs.Building.{AreStates, AreAll, HaveRows}

abbrev cases : PatternState → Unit {0} ⊎ List ℕ
cases done = inl tt
cases (reading ps) = inr ps

abbrev state : Unit {0} ⊎ List ℕ → PatternState
state (inl _) = done
state (inr ps) = reading ps

state_cases : (s : PatternState) → state (cases s) ≡ s
state_cases done = refl
state_cases (reading ps) = refl

coded_state : Coded PatternState
coded_state = code_by (Unit {0} ⊎ List ℕ) (coded⊎ coded_unit (coded_list coded_ℕ)) cases state state_cases

IsStateOf-prop : (atoms : List Atom) (s : TupleState) (w : List ℕ) → IsProp (IsStateOf atoms s w)
IsStateOf-prop atoms s w x y = λ i. record {
  empty = Coded-set coded_bool _ _ x.empty y.empty i;
  patterns = Coded-set (coded_list coded_state) _ _ x.patterns y.patterns i;
  node = Coded-set (coded_option coded_ℕ) _ _ x.node y.node i;
  length = Coded-set coded_ℕ _ _ x.length y.length i;
}

AreStates-prop : (atoms : List Atom) (keys : List TupleState) (rows : List (List ℕ))
    → IsProp (AreStates atoms keys rows)
AreStates-prop atoms [] [] = Unit-prop
AreStates-prop atoms [] (w ∷ rows) = λ x y. absurd x
AreStates-prop atoms (s ∷ keys) [] = λ x y. absurd x
AreStates-prop atoms (s ∷ keys) (w ∷ rows) = λ x y i. (
  IsStateOf-prop atoms s w x.0 y.0 i,
  AreStates-prop atoms keys rows x.1 y.1 i,
)

AreAll-prop : (atoms : List Atom) (keys : List TupleState) (numbers : List ℕ) (rows : List (List ℕ))
    → IsProp (AreAll atoms keys numbers rows)
AreAll-prop atoms keys numbers rows x y = λ i. (
  Coded-set (coded_list (coded_list coded_ℕ)) _ _ x.0 y.0 i,
  le_prop x.1 y.1 i,
  Coded-set (coded_list coded_ℕ) _ _ x.2 y.2 i,
  AreStates-prop atoms keys rows x.3 y.3 i,
)

pub HaveRows-prop : (atoms : List Atom) (keys : List TupleState) (numbers : List ℕ)
    → IsProp (HaveRows atoms keys numbers)
HaveRows-prop atoms keys numbers x y =
    Σ_prop_path (AreAll-prop atoms keys numbers) (rows_one atoms x.0 y.0 x.1.0 y.1.0)

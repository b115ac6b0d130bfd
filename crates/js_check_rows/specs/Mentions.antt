-- Rows that were mentioned, and their words.
use Rattle.std.specs.Prelude.{◌≡◌, ◌<◌, ◌⊎◌, ℕ, List, [], ◌∷◌, ◌++◌, length, get_or, Option, Some, None}
use Rattle.std.proofs.Common.{inl, inr, refl}
use Rattle.std.specs.Coded.{Coded, Coded-set, code_by, coded_list, coded_option, coded_ℕ, coded_bool, coded⊎}
use base.Stored.{coded_unit}
use Rattle.word_states.specs.Atom.{Atom}
use Rattle.word_states.specs.PatternState.{PatternState, done, reading}
use Rattle.word_states.specs.Classes.{class_firsts}
use Rattle.js_automaton.specs.declared.state.TupleState.{TupleState}
use Rattle.js_automaton.specs.Tuple.{IsStateOf}
use Rattle.js_check_rows.specs.declared.mention.Step.{Step}
use Rattle.js_check_rows.specs.declared.mention.Mention.{Mention}

-- the word of a row: that of the row which first named it, with the first character of a class
abbrev pub word_by : List Atom → List (List ℕ) → Option Step → List ℕ
word_by atoms ws None = []
word_by atoms ws (Some s) = get_or ws s.row [] ++ get_or (class_firsts atoms) s.class 0 ∷ []

-- words with those of further rows behind them
abbrev pub words_after : List Atom → List (List ℕ) → List Mention → List (List ℕ)
words_after atoms ws [] = ws
words_after atoms ws (m ∷ ms) = words_after atoms (ws ++ word_by atoms ws m.step ∷ []) ms

abbrev pub words_of : List Atom → List Mention → List (List ℕ)
words_of atoms = words_after atoms []

-- each has the state of its word
abbrev pub AreMade : List Atom → List Mention → Type 0
AreMade atoms ms =
    (i : ℕ) (m : Mention) → i < length ms → m ≡ get_or ms i m
    → IsStateOf atoms m.state (get_or (words_of atoms ms) i [])

-- `AreMade` is a proposition: any two proofs of it are equal

abbrev cases : PatternState → Unit {0} ⊎ List ℕ
cases done = inl tt
cases (reading ps) = inr ps

abbrev state : Unit {0} ⊎ List ℕ → PatternState
state (inl _) = done
state (inr ps) = reading ps

state_cases : (s : PatternState) → state (cases s) ≡ s
state_cases done = refl
state_cases (reading ps) = refl

coded_state : Coded PatternState
coded_state = code_by (Unit {0} ⊎ List ℕ) (coded⊎ coded_unit (coded_list coded_ℕ)) cases state state_cases

IsStateOf-prop : (atoms : List Atom) (s : TupleState) (w : List ℕ) → IsProp (IsStateOf atoms s w)
IsStateOf-prop atoms s w x y = λ i. record {
  empty = Coded-set coded_bool _ _ x.empty y.empty i;
  patterns = Coded-set (coded_list coded_state) _ _ x.patterns y.patterns i;
  node = Coded-set (coded_option coded_ℕ) _ _ x.node y.node i;
  length = Coded-set coded_ℕ _ _ x.length y.length i;
}

pub AreMade-prop : (atoms : List Atom) (ms : List Mention) → IsProp (AreMade atoms ms)
AreMade-prop atoms ms x y =
    λ i k m l e. IsStateOf-prop atoms m.state (get_or (words_of atoms ms) k []) (x k m l e) (y k m l e) i

-- What may follow a state in each of its patterns.
use Rattle.std.specs.Prelude.{◌≡◌, ℕ, ◌<◌, List, Option, length, get_or}
use Rattle.std.specs.Option.{ForSome}
use Rattle.js_pattern_positions.specs.Marks.{Marks}
use Rattle.js_nfa.specs.declared.nfa.Nfa.{Nfa}
use Rattle.js_nfa.specs.declared.state.PatternState.{PatternState}
use Rattle.js_nfa.specs.View.{tree_of, state_view}
use Rattle.js_nfa.specs.Columns.{IsFollow}

-- so it is for the first k patterns
abbrev pub AreFollowsTo : List Nfa → List PatternState → List (Option Marks) → ℕ → Type 0
AreFollowsTo ns states follows k =
    (i : ℕ) (n : Nfa) (x : PatternState) (f : Option Marks) → i < k → n ≡ get_or ns i n → x ≡ get_or states i x
    → f ≡ get_or follows i f → ForSome f (IsFollow (tree_of n) (state_view x))

-- one for each pattern
abbrev pub AreFollows : List Nfa → List PatternState → List (Option Marks) → Type 0
AreFollows ns states follows = (length follows ≡ length ns) × AreFollowsTo ns states follows (length ns)

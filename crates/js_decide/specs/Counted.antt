-- What the limits count, and that a count is over its number: of a goal, and of all goals that were explored.
use Rattle.std.specs.Prelude.{◌≡◌, ◌<◌, ◌≤◌, ◌+◌, ℕ, suc, List, [], ◌∷◌, ◌++◌, flat_map, length, take, slice_get, false, Some, None, Result, Ok}
use Rattle.documents.specs.Kind as K
use Rattle.documents.specs.Kind.{Kind, all_kinds}
use Rattle.list_laws.specs.In.{IsIn, Distinct}
use Rattle.word_states.specs.Atom.{Atom}
use Rattle.word_states.specs.AtomPositions.{positions_of}
use Rattle.word_states.specs.Classes.{class_count}
use Rattle.word_states.specs.Rows.{HaveStates}
use Rattle.positions.specs.Position.{Position}
use Rattle.goals.specs.Signed.{Signed}
use Rattle.goals.specs.Tree as G
use Rattle.cells.specs.Cells.{Cells}
use Rattle.frames.specs.Plan.{ends, plan_steps}
use Rattle.frames.specs.ArrayFrame as A
use Rattle.frames.specs.ArrayFrame.{array_frame}
use Rattle.frames.specs.ObjectFrame as O
use Rattle.frames.specs.ObjectFrame.{object_frame}
use Rattle.number_groups.specs.Cases.{Cases, LimitMultiples, LimitCandidates}
use Rattle.number_groups.specs.Multiples.{lcm_of}
use Rattle.number_groups.specs.Correct.{Says}
use Rattle.alternatives.specs.Alternative.{Alternative, named, places}
use Rattle.alternatives.specs.Limit as L
use Rattle.alternatives.specs.Limit.{LimitKind, most_ends, most_positions, most_classes, most_states, most_counts, most_candidates, most_plans, most_width, most_places, most_goals, most_total}
use Rattle.alternatives.specs.Expansion.{Expansion, nothing, keep_all}
use Rattle.expansions.specs.Expansion.{at_kind}
use Rattle.number_finder.specs.SetGroup.{number_group}
use Rattle.finders.specs.Strings.{string_atoms}
use Rattle.finders.specs.Names.{atoms_of_names, cells_of}
use Rattle.search.specs.Explored.{Found, is_listed}
use Rattle.decisions.specs.Decision as D
use Rattle.decisions.specs.Decision.{Verdict}
use Rattle.decisions.specs.Meaning.{OfRoot}
use Rattle.js_expander.specs.Found.{finders, leaf_of}

-- more states than there may be are reached by words
abbrev pub HaveManyStates : ℕ → List Atom → Type 0
HaveManyStates most atoms = (n : ℕ) × (most < n) × HaveStates atoms n

module _ (T : List Position) where
  -- one of the branches of a goal, at a kind where the goal's tree has no more ends than it may have; and what holds of
  -- its kind, its number and its set
  pub record OfBranch (g : List Signed) (P : Kind → ℕ → List Signed → Type 0) : Type 0 where
    pub kind : Kind
    pub number : ℕ
    pub set : List Signed
    pub few : G.ends (G.steps T kind g) ≤ most_ends
    pub at : slice_get (G.branches (G.steps T kind g)) number ≡ Some set
    pub holds : P kind number set

  -- what holds of the atoms of its automaton, which reads strings, or the names of members
  abbrev pub OfAtoms : (List Atom → Type 0) → Kind → ℕ → List Signed → Type 0
  OfAtoms P K.Text k S = P (string_atoms T S)
  OfAtoms P K.Object k S = P (atoms_of_names T S)
  OfAtoms P t k S = ⊥

  -- what an answer says of its numbers: the least common multiple, or the next candidate, is over 2^127-1 in size; or
  -- so many candidates are struck, and another one is left
  abbrev pub OfNumbers : Cases → Kind → ℕ → List Signed → Type 0
  OfNumbers c K.Number k S = Says most_candidates (lcm_of (number_group T S).multiples) (number_group T S) c
  OfNumbers c t k S = ⊥

  -- the least number of its elements, or of its members
  abbrev pub HasManyParts : Kind → ℕ → List Signed → Type 0
  HasManyParts K.Array k S = most_counts < A.lower T S
  HasManyParts K.Object k S = most_counts < O.lower T S
  HasManyParts t k S = ⊥

  -- the ends of its plans
  abbrev pub HasManyPlans : Kind → ℕ → List Signed → Type 0
  HasManyPlans K.Array k S = most_plans < ends (plan_steps T (array_frame T S))
  HasManyPlans K.Object k S =
      (C : Cells) × (cells_of T S ≡ Ok C) × (most_plans < ends (plan_steps T (object_frame T C S)))
  HasManyPlans t k S = ⊥

  -- the signed positions of a goal that one of its alternatives names
  abbrev pub HasWide : Kind → ℕ → List Signed → Type 0
  HasWide t k S =
      (more : List Alternative) × (leaf_of T t k S ≡ Ok more)
      × ((h : List Signed) × IsIn h (named more) × (most_width < length h))

  -- the places of the alternatives that are kept of the branches before one, together with those of its own
  pub record HasManyPlaces (g : List Signed) : Type 0 where
    pub before : List (Result (List Alternative) LimitKind)
    pub own : List Alternative
    pub after : List (Result (List Alternative) LimitKind)
    pub is : flat_map (at_kind T (leaf_of T) g) all_kinds ≡ before ++ Ok own ∷ after
    pub many : most_places < places (keep_all nothing before).alternatives + places own

  -- the count that a limit names is over its number, at a goal
  abbrev pub Passes : List Signed → LimitKind → Type 0
  Passes g L.Branches = (t : Kind) × (most_ends < G.ends (G.steps T t g))
  Passes g L.Positions = OfBranch g (OfAtoms (λ atoms. most_positions < positions_of atoms))
  Passes g L.Classes = OfBranch g (OfAtoms (λ atoms. most_classes < class_count atoms))
  Passes g L.States = OfBranch g (OfAtoms (HaveManyStates most_states))
  Passes g L.Counts = OfBranch g HasManyParts
  Passes g L.Multiples = OfBranch g (OfNumbers LimitMultiples)
  Passes g L.Candidates = OfBranch g (OfNumbers LimitCandidates)
  Passes g L.Plans = OfBranch g HasManyPlans
  Passes g L.Width = OfBranch g HasWide
  Passes g L.Places = HasManyPlaces g
  -- the others count what was explored
  Passes g k = ⊥

module _ (expansion : List Signed → Expansion) where
  -- the places of the alternatives of some goals
  abbrev pub all_places : List (List Signed) → ℕ
  all_places [] = 0
  all_places (g ∷ gs) = places (expansion g).alternatives + all_places gs

  -- as many goals as may be were explored, all different, and one that was taken names a further one
  pub record HasMoreGoals (most : ℕ) (f : Found) : Type 0 where
    pub many : most ≤ length f.goals
    pub differ : Distinct f.goals
    pub goal : List Signed
    pub was_taken : IsIn goal (take f.taken f.goals)
    pub further : List Signed
    pub is_named : IsIn further (named (expansion goal).alternatives)
    pub is_new : is_listed f.goals further ≡ false

  -- the count that a limit names is over its number, of all goals that were explored: there is one more goal, or those
  -- that were taken and the one after them have too many places
  abbrev pub PassesAll : ℕ → ℕ → Found → LimitKind → Type 0
  PassesAll most most_all f L.Goals = HasMoreGoals most f
  PassesAll most most_all f L.Total = most_all < all_places (take (suc f.taken) f.goals)
  PassesAll most most_all f k = ⊥

-- where a limit is reported its count is over its number: at the goal that is reported with it, or of all that were
-- explored from the root
abbrev pub IsCounted : List Position → (a b : ℕ) → Verdict → Type 0
IsCounted T a b (D.Limit k (Some g)) = Passes T g k
IsCounted T a b (D.Limit k None) =
    OfRoot (finders T) T most_goals most_total a b (λ e f. PassesAll e most_goals most_total f k)
IsCounted T a b v = Unit {0}

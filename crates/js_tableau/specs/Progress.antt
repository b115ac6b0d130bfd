-- How far a walk has come: the sets that are still to be visited, and the steps of a tree that are left.
use Rattle.std.specs.Prelude.{◌≡◌, ℕ, zero, suc, ◌+◌, ◌<◌, ◌≤◌, List, [], ◌∷◌, ◌++◌, map, flat_map, take, length, reverse, get_or, Bool, true, false, cond, ⊤, Option, Some, None}
use Rattle.documents.specs.Kind.{Kind}
use Rattle.positions.specs.Position.{Position}
use Rattle.goals.specs.Signed as G
use Rattle.goals.specs.Signed.{add_all, position_of}
use Rattle.goals.specs.Choices.{choices}
use Rattle.goals.specs.Tree as T
use Rattle.goals.specs.Tree.{steps, ends, choice_list}
use Rattle.js_algebra.specs.View.{signed_view, is_in_table, are_in_table}
use Rattle.js_algebra.specs.declared.signed.Signed.{Signed}
use Rattle.js_algebra.specs.SignedSets.{set_of, with_members}
use Rattle.js_tableau.specs.Walks.{IsCovered, is_clean, are_settled, step_view}
use Rattle.js_tableau.specs.Branches.{most_ends}
use Rattle.js_tableau.specs.declared.walk.Walk.{Walk}
use Rattle.js_tableau.specs.declared.walk.Step.{Step}
use Rattle.js_tableau.specs.declared.walk.Step.TheVariants as V
use Rattle.js_tableau.specs.declared.visits.Pending.{Pending}
use Rattle.js_tableau.specs.declared.visits.Tree.{Tree}

-- a step of the program stands for a step of the tree
abbrev pub Matches : Step → T.Step → Type 0
Matches (V.Clash x) s = s ≡ T.Clash (position_of (signed_view x))
Matches (V.Wrong x) s = s ≡ T.Wrong (signed_view x)
Matches (V.Rule x n) s = (cs : List (List G.Signed)) × (s ≡ T.Rule (signed_view x) cs) × (n ≡ length cs)
Matches V.Saturated s = (S : List G.Signed) × (s ≡ T.Saturated S)

abbrev pub choice_count : Step → ℕ
choice_count (V.Clash x) = 0
choice_count (V.Wrong x) = 0
choice_count (V.Rule x n) = n
choice_count V.Saturated = 0

abbrev pub is_end : Step → Bool
is_end (V.Clash x) = true
is_end (V.Wrong x) = true
is_end (V.Rule x zero) = true
is_end (V.Rule x (suc n)) = false
is_end V.Saturated = true

abbrev pub one_more : Bool → ℕ → ℕ
one_more true n = n + 1
one_more false n = n

-- the choice of a set still to be visited
abbrev pub choice_of : List Position → Kind → Pending → List G.Signed
choice_of P t e = get_or (choice_list (choices P t (signed_view e.rule))) e.index []

-- the sets still to be visited, the next one first
abbrev pub sets : List Position → Kind → List G.Signed → List Pending → List (List G.Signed)
sets P t xs [] = []
sets P t xs (e ∷ es) = add_all (choice_of P t e) (set_of (take e.members xs)) ∷ sets P t (take e.members xs) es

-- their steps
abbrev pub steps_left : List Position → Kind → List G.Signed → List Pending → List T.Step
steps_left P t xs es = flat_map (steps P t) (sets P t xs (reverse es))

-- a set can be visited: its rule has that choice, and what is known of its members holds
pub record IsFine (P : List Position) (t : Kind) (xs : List G.Signed) (ys : List Signed) (e : Pending) : Type 0 where
  pub members_in : e.members ≤ length xs
  pub settled_in : e.settled ≤ length ys
  pub rule_in_table : is_in_table P (signed_view e.rule) ≡ true
  pub index_in : e.index < length (choice_list (choices P t (signed_view e.rule)))
  pub clean : is_clean P t (take e.members xs) ≡ true
  pub settles : are_settled P t (with_members (choice_of P t e) (take e.members xs))
      (map signed_view (take e.settled ys)) ≡ true

abbrev pub AreFine : List Position → Kind → List G.Signed → List Signed → List Pending → Type 0
AreFine P t xs ys [] = ⊤
AreFine P t xs ys (e ∷ es) = IsFine P t xs ys e × AreFine P t (take e.members xs) (take e.settled ys) es

-- a walk with the sets still to be visited
pub record Stands (P : List Position) (t : Kind) (w : Walk) (es : List Pending) : Type 0 where
  pub in_table : are_in_table P w.trail ≡ true
  pub covered : IsCovered w
  pub fine : AreFine P t w.trail w.settled.items (reverse es)

-- a rule comes with the number of its choices
abbrev pub IsCounted : List Position → Kind → Step → Type 0
IsCounted P t (V.Rule x n) = n ≡ length (choice_list (choices P t (signed_view x)))
IsCounted P t _ = ⊤

-- a visit of the set at hand gives its step and leaves the sets of its choices
pub record Visits (P : List Position) (t : Kind) (xs : List G.Signed) (es es' : List Pending) (n n' : ℕ)
    (s : Step) : Type 0 where
  pub tells : steps P t (set_of xs) ++ steps_left P t xs es ≡ step_view P t (set_of xs) s ∷ steps_left P t xs es'
  pub counts : n' + ends (steps_left P t xs es') ≡ n + ends (steps P t (set_of xs) ++ steps_left P t xs es)
  pub few : n' + length es' ≤ most_ends
  pub counted : IsCounted P t s

-- the sets of n choices of a rule, from choice i on
abbrev pub entries : ℕ → ℕ → Signed → ℕ → ℕ → List Pending
entries m s x i zero = []
entries m s x i (suc n) = record { members = m; settled = s; rule = x; index = i } ∷ entries m s x (suc i) n

-- the steps that are left where the set at hand is still to be visited
abbrev pub steps_at_hand : List Position → Kind → List G.Signed → List Pending → List T.Step
steps_at_hand P t xs es = steps P t (set_of xs) ++ steps_left P t xs es

-- the steps of a tree that weren't given yet
abbrev pub left : List Position → Kind → Tree → List T.Step
left P t tree = cond tree.begun (steps_left P t tree.walk.trail tree.pending.items)
    (steps_at_hand P t tree.walk.trail tree.pending.items)

-- the set of the step that was given last, as a rising list
abbrev pub told_set : Tree → List G.Signed
told_set tree = set_of tree.walk.trail

-- a tree of a table at a kind, not over the limit so far
pub record IsTree (P : List Position) (t : Kind) (tree : Tree) : Type 0 where
  pub stands : Stands P t tree.walk tree.pending.items
  pub few : tree.ends + length tree.pending.items ≤ most_ends
  pub fresh : tree.begun ≡ false → tree.walk.settled.items ≡ []

-- the set at hand is to be visited, with its members after the first `from` new
pub record IsAtHand (P : List Position) (t : Kind) (tree : Tree) (from : ℕ) : Type 0 where
  pub stands : Stands P t tree.walk tree.pending.items
  pub few : tree.ends + length tree.pending.items ≤ most_ends
  pub clean : is_clean P t (take from tree.walk.trail) ≡ true
  pub settled : are_settled P t tree.walk.trail (map signed_view tree.walk.settled.items) ≡ true
  pub begun : tree.begun ≡ true

-- the step was the next one, and the ends that were given and those that are left are as many as before
pub record Tells (P : List Position) (t : Kind) (old new : Tree) (s : Step) : Type 0 where
  pub told : left P t old ≡ step_view P t (told_set new) s ∷ left P t new
  pub ends : new.ends + ends (left P t new) ≡ old.ends + ends (left P t old)
  pub counted : IsCounted P t s

-- a step was given, or none is left
abbrev pub AfterStep : List Position → Kind → Tree → Tree → Option Step → Type 0
AfterStep P t old new None = (left P t old ≡ []) × (left P t new ≡ [])
AfterStep P t old new (Some s) = Tells P t old new s

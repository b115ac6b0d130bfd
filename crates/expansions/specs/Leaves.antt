-- The alternatives of a saturated set at each kind.
use Rattle.std.specs.Prelude.{ℕ, suc, ℤ, List, [], ◌∷◌, ◌++◌, map, filter, length, Bool, true, false, not, cond, nat_lt, Option, Some, None, Result, Ok, Err, get_or}
use Rattle.std.specs.Bool.{beq}
use Rattle.documents.specs.Tests.{every}
use Rattle.documents.specs.Kind as K
use Rattle.documents.specs.Kind.{Kind}
use Rattle.positions.specs.Position.{Position, BoolIs, position_at}
use Rattle.goals.specs.Signed.{Signed, Plus, Minus}
use Rattle.frames.specs.Frame.{Place, Head, In, Frame, is_at_end}
use Rattle.frames.specs.Plan.{Plan, placed, goal_of, ends, complete, plan_steps, need}
use Rattle.frames.specs.ArrayFrame as A
use Rattle.frames.specs.ArrayFrame.{array_frame}
use Rattle.cells.specs.Cells.{Cells}
use Rattle.frames.specs.ObjectFrame as O
use Rattle.frames.specs.ObjectFrame.{object_frame}
use Rattle.frames.specs.Fillers.{Filler, fillers, times}
use Rattle.alternatives.specs.Limit.{LimitKind, Counts, Plans, most_counts, most_plans}
use Rattle.alternatives.specs.Alternative as Alt
use Rattle.alternatives.specs.Alternative.{Slot, Index, Name, Shape, Elements, Members, Placed, Alternative}

-- scalars: an alternative for each, without members and fillers

abbrev pub scalar : Kind → ℕ → Shape → Alternative
scalar t k shape = record { kind = t; branch = k; shape = shape; members = []; need = 0; fillers = [] }

abbrev pub result_map : {A B C : Type 0} → (A → B) → Result A C → Result B C
result_map f (Ok x) = Ok (f x)
result_map f (Err e) = Err e

abbrev pub scalars : {A : Type 0} → Kind → (A → Shape) → ℕ → List A → List Alternative
scalars t shape k xs = map (λ x. scalar t k (shape x)) xs

abbrev pub one_or_none : {A : Type 0} → Option A → List A
one_or_none None = []
one_or_none (Some x) = x ∷ []

-- the leaf of the scalar that is found, or of none
abbrev pub scalar_leaf : {A : Type 0} → Kind → (A → Shape) → ℕ → Result (Option A) LimitKind
    → Result (List Alternative) LimitKind
scalar_leaf t shape k found = result_map (λ o. scalars t shape k (one_or_none o)) found

abbrev pub plus_agrees : Bool → Position → Bool
plus_agrees b (BoolIs c) = beq c b
plus_agrees b _ = true

abbrev pub minus_agrees : Bool → Position → Bool
minus_agrees b (BoolIs c) = not (beq c b)
minus_agrees b _ = true

abbrev pub agrees : List Position → Bool → Signed → Bool
agrees T b (Plus p) = plus_agrees b (position_at T p)
agrees T b (Minus p) = minus_agrees b (position_at T p)

-- the truth values that meet a set, false first
abbrev pub truth_values : List Position → List Signed → List Bool
truth_values T S = filter (λ b. every (agrees T b) S) (false ∷ true ∷ [])

-- arrays and objects: an alternative for each complete plan

-- name k of a cell
abbrev pub name : Cells → ℕ → ℕ → List ℕ
name C c k = get_or (C.words c) k []

abbrev pub cell_of : Place → ℕ
cell_of (Head i) = i
cell_of (In c) = c

-- how places and fillers are named: by number, the cells before, and the place
pub record Naming : Type 0 where
  pub shape : Shape
  pub slot : ℕ → List ℕ → Place → Slot
  -- of a filler, by the number of what is placed
  pub filling : ℕ → Filler → Slot

abbrev pub by_index : Naming
by_index = record { shape = Elements; slot = λ i before at. Index i; filling = λ n f. Index n }

abbrev pub by_name : Naming
by_name = record {
  shape = Members;
  slot = λ i before at. Name (cell_of at) (times (cell_of at) before);
  filling = λ n f. Name f.cell f.first;
}

abbrev pub placed_as : Slot → Option (List Signed) → List Placed
placed_as s None = []
placed_as s (Some g) = record { slot = s; goal = g } ∷ []

-- in a complete plan each list that is placed forms a goal
abbrev pub members_of : Naming → List Position → Frame → ℕ → List ℕ → List (Place × List Signed) → List Placed
members_of N T frame i before [] = []
members_of N T frame i before (s ∷ ss) =
    placed_as (N.slot i before s.0) (goal_of T frame s) ++ members_of N T frame (suc i) (cell_of s.0 ∷ before) ss

abbrev pub filling_of : Naming → ℕ → Filler → Alt.Filler
filling_of N n f = record { slot = N.filling n f; goal = f.goal; room = f.room }

abbrev pub plan_alternative : Naming → Kind → ℕ → List Position → Frame → Plan → Alternative
plan_alternative N t k T frame q = record {
  kind = t;
  branch = k;
  shape = N.shape;
  members = members_of N T frame 0 [] (placed frame q);
  need = need frame q;
  fillers = map (filling_of N (length (placed frame q))) (fillers T frame q);
}

abbrev pub by_plans : (Frame → Plan → Alternative) → List Position → Frame → Result (List Alternative) LimitKind
by_plans make T frame =
    cond (nat_lt most_plans (ends (plan_steps T frame))) (Err Plans)
    (Ok (map (make frame) (complete (plan_steps T frame))))

abbrev pub with_frame : (Frame → Plan → Alternative) → List Position → Result Frame LimitKind
    → Result (List Alternative) LimitKind
with_frame make T (Err e) = Err e
with_frame make T (Ok frame) = by_plans make T frame

-- crossed bounds, then Counts, then what the cells say, then Plans
abbrev pub plan_leaf : (Frame → Plan → Alternative) → List Position → ℕ → Option ℕ → Result Frame LimitKind
    → Result (List Alternative) LimitKind
plan_leaf make T lower below frame =
    cond (is_at_end lower below) (Ok []) (cond (nat_lt most_counts lower) (Err Counts) (with_frame make T frame))

abbrev pub array_leaf : List Position → ℕ → List Signed → Result (List Alternative) LimitKind
array_leaf T k S =
    plan_leaf (plan_alternative by_index K.Array k T) T (A.lower T S) (A.below T S) (Ok (array_frame T S))

abbrev pub object_leaf : List Position → ℕ → List Signed → Result Cells LimitKind
    → Result (List Alternative) LimitKind
object_leaf T k S cells =
    plan_leaf (plan_alternative by_name K.Object k T) T (O.lower T S) (O.below T S)
    (result_map (λ C. object_frame T C S) cells)

-- what the finders of numbers, of words and of cells answer for a set: the number or the word of its one alternative,
-- or none where it has no alternative
pub record Finders : Type 0 where
  pub numbers : List Signed → Result (Option ℤ) LimitKind
  pub strings : List Signed → Result (Option (List ℕ)) LimitKind
  pub cells : List Signed → Result Cells LimitKind

abbrev pub leaf : Finders → List Position → Kind → ℕ → List Signed → Result (List Alternative) LimitKind
leaf F T K.Null k S = Ok (scalar K.Null k Alt.Null ∷ [])
leaf F T K.Boolean k S = Ok (scalars K.Boolean Alt.Truth k (truth_values T S))
leaf F T K.Number k S = scalar_leaf K.Number Alt.Number k (F.numbers S)
leaf F T K.Text k S = scalar_leaf K.Text (λ w. Alt.Text) k (F.strings S)
leaf F T K.Array k S = array_leaf T k S
leaf F T K.Object k S = object_leaf T k S (F.cells S)

-- word k of cell c of the names of a set
abbrev pub names_of : Result Cells LimitKind → ℕ → ℕ → List ℕ
names_of (Ok C) c k = name C c k
names_of (Err e) c k = []

-- the word that is found
abbrev pub word_of : Result (Option (List ℕ)) LimitKind → ℕ → ℕ → List ℕ
word_of (Ok (Some w)) c k = w
word_of _ c k = []

-- word k of cell c of a branch: a name at objects, the word that was found at strings
abbrev pub words_of : Finders → Kind → List Signed → ℕ → ℕ → List ℕ
words_of F K.Text S = word_of (F.strings S)
words_of F K.Object S = names_of (F.cells S)
words_of F _ S = λ c k. []

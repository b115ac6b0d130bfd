-- The leaf of a branch at objects, as far as it is answered.
use Rattle.std.proofs.Common.{◌≡◌, ℕ, ◌<◌, ◌≤◌, Bool, true, false, List, [], Option, Result, Ok, Err, IfOk, refl, ap, ap₂, sym, ◌∙◌, subst}
use Rattle.std.specs.Result.{IsErrAnd}
use Rattle.std.proofs.lemmas.Bool.{lt-ltb, le-ltb}
use Rattle.documents.specs.Kind as K
use Rattle.positions.specs.Position.{Position}
use Rattle.goals.specs.Signed.{Signed}
use Rattle.cells.specs.Cells.{Cells}
use Rattle.frames.specs.Frame.{Frame, is_at_end}
use Rattle.frames.specs.Plan.{Plan}
use Rattle.frames.specs.ObjectFrame as O
use Rattle.frames.specs.ObjectFrame.{object_frame}
use Rattle.alternatives.specs.Alternative.{Alternative}
use Rattle.alternatives.specs.Limit.{LimitKind, Counts, most_counts}
use Rattle.expansions.specs.Leaves.{by_name, plan_alternative, by_plans, object_leaf}
use Rattle.expansion_laws.proofs.Leaf.{ok_same}
use Rattle.finders.specs.Names.{cells_of}
use Rattle.js_automaton.specs.declared.automaton.Automaton.{Automaton}
use Rattle.js_automaton.specs.declared.fault.AutoFault.{AutoFault}
use Rattle.js_automaton.specs.declared.fault.AutoFault.TheVariants as A
use Rattle.js_plans.specs.declared.fault.PlanFault.{PlanFault}
use Rattle.js_plans.specs.declared.fault.PlanFault.TheVariants as P
use Rattle.js_plans.specs.Named as N
use Rattle.js_expansion.specs.declared.expansion.Leaf.{Leaf}
use Rattle.js_objects.specs.declared.fault.ObjectFault.{ObjectFault}
use Rattle.js_objects.specs.declared.fault.ObjectFault.TheVariants as F
use Rattle.js_objects.specs.Faults.{name_fault, plan_fault}
use Rattle.js_objects.specs.Leaves.{Says, NamesFail, planned_leaf}
use Rattle.js_objects.specs.Steps.{IsOfNames, cells_by}

-- want of memory says nothing
pub memory-says : (r : Result Leaf ObjectFault) (answer : Result (List Alternative) LimitKind)
    → IsErrAnd r (λ f. f ≡ F.Memory) → Says answer r
memory-says (Ok l) answer h = absurd h
memory-says (Err f) answer h = subst (λ z. Says answer (Err z)) (sym h) tt

pub ok-map : {A E : Type 0} (r : Result A E) (P Q : A → Type 0) → ((x : A) → P x → Q x) → IfOk r P → IfOk r Q
ok-map (Ok x) P Q f h = f x h
ok-map (Err e) P Q f h = tt

module _ (T : List Position) (k : ℕ) (S : List Signed) (found : Result Cells LimitKind) where
  abbrev make : Frame → Plan → Alternative
  make = plan_alternative by_name K.Object k T

  pub leaf-crossed : is_at_end (O.lower T S) (O.below T S) ≡ true → object_leaf T k S found ≡ Ok []
  leaf-crossed e = rw e refl

  pub leaf-counts : is_at_end (O.lower T S) (O.below T S) ≡ false → most_counts < O.lower T S
      → object_leaf T k S found ≡ Err Counts
  leaf-counts e l = rw (e, lt-ltb most_counts (O.lower T S) l) refl

  pub leaf-planned : is_at_end (O.lower T S) (O.below T S) ≡ false → O.lower T S ≤ most_counts
      → object_leaf T k S found ≡ planned_leaf T k S found
  leaf-planned e l = rw (e, le-ltb most_counts (O.lower T S) l) refl

  -- a limit of the automaton
  pub names-say : (f : AutoFault) → NamesFail found f → (r : Result Leaf ObjectFault)
      → IsErrAnd r (λ g. g ≡ name_fault f) → Says (planned_leaf T k S found) r
  names-say f e (Ok l) h = absurd h
  names-say A.LimitPositions e (Err g) h =
      subst (λ z. Says (planned_leaf T k S found) (Err z)) (sym h) (ap (planned_leaf T k S) e)
  names-say A.LimitClasses e (Err g) h =
      subst (λ z. Says (planned_leaf T k S found) (Err z)) (sym h) (ap (planned_leaf T k S) e)
  names-say A.LimitStates e (Err g) h =
      subst (λ z. Says (planned_leaf T k S found) (Err z)) (sym h) (ap (planned_leaf T k S) e)
  names-say A.Memory e (Err g) h = subst (λ z. Says (planned_leaf T k S found) (Err z)) (sym h) tt

  -- the plans of its frame
  pub planned-is : (C : Cells) → found ≡ Ok C → (frame : Frame) → frame ≡ object_frame T C S
      → by_plans make T frame ≡ planned_leaf T k S found
  planned-is C is frame same = ap (by_plans make T) same ∙ sym (ap (planned_leaf T k S) is)

-- the plans are too many
pub plans-say : (make : Frame → Plan → Alternative) (T : List Position) (frame : Frame) (f : PlanFault)
    → N.Answers make T frame (Err f) → (r : Result Leaf ObjectFault) → IsErrAnd r (λ g. g ≡ plan_fault f)
    → Says (by_plans make T frame) r
plans-say make T frame f e (Ok l) h = absurd h
plans-say make T frame P.LimitPlans e (Err g) h = subst (λ z. Says (by_plans make T frame) (Err z)) (sym h) e
plans-say make T frame P.Memory e (Err g) h = subst (λ z. Says (by_plans make T frame) (Err z)) (sym h) tt

-- bounds that code has found
pub end-of : (T : List Position) (S : List Signed) (least : ℕ) (end : Option ℕ) (r b : Bool) → least ≡ O.lower T S
    → end ≡ O.below T S → r ≡ is_at_end least end → r ≡ b → is_at_end (O.lower T S) (O.below T S) ≡ b
end-of T S least end r b l e i h = ap₂ (λ x y. is_at_end x y) (sym l) (sym e) ∙ sym i ∙ h

-- the cells that are found are those of the rows
pub same-cells : (T : List Position) (S X : List Signed) (a : Automaton) → X ≡ S → IsOfNames T X a → (C : Cells)
    → cells_of T S ≡ Ok C → C ≡ cells_by T X a
same-cells T S X a q names C e =
    ok_same C (cells_by T X a) (cells_of T S) e
    (subst (λ z. cells_of T z ≡ Ok (cells_by T X a)) q names.found)

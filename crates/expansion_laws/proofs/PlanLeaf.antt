-- Leaves of arrays and objects: an alternative for each complete plan.
use Rattle.std.proofs.Common.{◌≡◌, ℕ, suc, ◌+◌, ◌≤◌, ◌⊎◌, inl, inr, Bool, true, false, ◌&&◌, cond, nat_le, nat_lt, List, [], ◌∷◌, ◌++◌, map, length, Option, Some, None, Result, Ok, Err, refl, ap, ap₂, sym, arith}
use Rattle.std.proofs.lemmas.Bool.{ltb-false}
use Rattle.std.specs.Option.{is_none}
use Rattle.documents.specs.Tests.{every}
use Rattle.documents.specs.Kind.{Kind}
use Rattle.positions.specs.Position.{Position}
use Rattle.goals.specs.Signed.{Signed}
use Rattle.frames.specs.Frame.{Place, Frame, is_at_end}
use Rattle.frames.specs.Plan.{Plan, empty_plan, placed, goal_of, clash_from, ends, complete, plan_steps, need}
use Rattle.list_laws.specs.In.{IsIn}
use Rattle.frame_laws.proofs.CompletePlans.{IsComplete, complete_is, empty_kept}
use Rattle.frames.specs.Fillers.{Filler, fillers, rooms_of, passes, is_met_by}
use Rattle.alternatives.specs.Alternative.{Alternative, rooms, is_met}
use Rattle.alternatives.specs.Limit.{LimitKind, Counts, Plans, most_counts, most_plans}
use Rattle.expansions.specs.Leaves.{Naming, cell_of, placed_as, members_of, filling_of, plan_alternative, by_plans, with_frame, plan_leaf}

-- an alternative is met as its plan is

module _ (N : Naming) (can : List Signed → Bool) (T : List Position) (frame : Frame) where
  members_met : (n i : ℕ) (before : List ℕ) (ss : List (Place × List Signed)) → clash_from T frame n ss ≡ None
      → every (λ m. can m.goal) (members_of N T frame i before ss) ≡ every (passes can) (map (goal_of T frame) ss)
  members_met n i before [] e = refl
  members_met n i before (s ∷ ss) e =
      go (goal_of T frame s) e (members_met (suc n) (suc i) (cell_of s.0 ∷ before) ss) where
        go : (o : Option (List Signed)) → cond (is_none o) (Some n) (clash_from T frame (suc n) ss) ≡ None
            → (clash_from T frame (suc n) ss ≡ None
            → every (λ m. can m.goal) (members_of N T frame (suc i) (cell_of s.0 ∷ before) ss) ≡ every (passes can)
            (map (goal_of T frame) ss))
            → every (λ m. can m.goal)
            (placed_as (N.slot i before s.0) o ++ members_of N T frame (suc i) (cell_of s.0 ∷ before) ss)
            ≡ (passes can o && every (passes can) (map (goal_of T frame) ss))
        go None e more = cc
        go (Some g) e more = ap (λ b. can g && b) (more e)

  rooms_same : (n : ℕ) (fs : List Filler) → rooms can (map (filling_of N n) fs) ≡ rooms_of can fs
  rooms_same n [] = refl
  rooms_same n (f ∷ fs) = ap (λ r. cond (can f.goal) (f.room + r) r) (rooms_same n fs)

  pub met_same : (t : Kind) (k : ℕ) (q : Plan) → IsComplete T frame q
      → is_met can (plan_alternative N t k T frame q) ≡ is_met_by can T frame q
  met_same t k q c = ap₂ (λ x r. x && nat_le (need frame q) r)
      (members_met 0 0 [] (placed frame q) c.clear)
      (rooms_same (length (placed frame q)) (fillers T frame q))

pub complete_plan : (T : List Position) (frame : Frame) (q : Plan) → IsIn q (complete (plan_steps T frame))
    → IsComplete T frame q
unfolding plan_steps
complete_plan T frame q i = complete_is T frame frame.demands (empty_plan frame) q (empty_kept T frame) i

-- what a leaf of plans is, where it has no limit

pub record IsOpen (make : Frame → Plan → Alternative) (T : List Position) (lower : ℕ) (fr : Result Frame LimitKind)
    (more : List Alternative) : Type 0 where
  pub counted : lower ≤ 65536
  pub frame : Frame
  pub is_frame : fr ≡ Ok frame
  pub planned : ends (plan_steps T frame) ≤ 65536
  pub is : more ≡ map (make frame) (complete (plan_steps T frame))

module _ (make : Frame → Plan → Alternative) (T : List Position) (lower : ℕ) (below : Option ℕ) where
  inner : (u v : List Alternative) (r s : Result (List Alternative) LimitKind) → r ≡ Ok u → s ≡ Ok v → r ≡ s → u ≡ v
  inner u v r s a b e = cc

  planned_is : (frame : Frame) (more : List Alternative) → lower ≤ 65536 → by_plans make T frame ≡ Ok more
      → IsOpen make T lower (Ok frame) more
  planned_is frame more l e = go (nat_lt most_plans (ends (plan_steps T frame))) refl e where
    go : (b : Bool) → nat_lt most_plans (ends (plan_steps T frame)) ≡ b
        → cond b (Err Plans) (Ok (map (make frame) (complete (plan_steps T frame)))) ≡ Ok more
        → IsOpen make T lower (Ok frame) more
    go true p e = cc
    go false p e = record {
      counted = l;
      frame = frame;
      is_frame = refl;
      planned = let h = ltb-false most_plans (ends (plan_steps T frame)) p in omega (arith, h);
      is = sym (inner (map (make frame) (complete (plan_steps T frame))) more _ _ refl refl e);
    }

  with_is : (fr : Result Frame LimitKind) (more : List Alternative) → lower ≤ 65536 → with_frame make T fr ≡ Ok more
      → IsOpen make T lower fr more
  with_is (Ok frame) more l e = planned_is frame more l e
  with_is (Err k) more l e = cc

  -- a leaf of plans has no alternative where the bounds cross, and else those of the frame's complete plans
  pub leaf_is : (fr : Result Frame LimitKind) (more : List Alternative) → plan_leaf make T lower below fr ≡ Ok more
      → ((is_at_end lower below ≡ true) × (more ≡ []))
      ⊎ ((is_at_end lower below ≡ false) × IsOpen make T lower fr more)
  leaf_is fr more e = go (is_at_end lower below) (nat_lt most_counts lower) refl refl e where
    go : (a b : Bool) → is_at_end lower below ≡ a → nat_lt most_counts lower ≡ b
        → cond a (Ok []) (cond b (Err Counts) (with_frame make T fr)) ≡ Ok more
        → ((is_at_end lower below ≡ true) × (more ≡ []))
        ⊎ ((is_at_end lower below ≡ false) × IsOpen make T lower fr more)
    go true b p q e = inl (p, sym (inner [] more _ _ refl refl e))
    go false true p q e = cc
    go false false p q e = inr (p, with_is fr more (let h = ltb-false most_counts lower q in omega (arith, h)) e)

-- A set at arrays of which no alternative is met is refuted by the lines of its plans; and what any frame needs for
-- this.
use Rattle.std.proofs.Common.{◌≡◌, ℕ, zero, suc, ◌+◌, ◌-◌, ◌≤◌, ⊎_elim, Bool, true, false, cond, List, [], ◌∷◌, map, length, nat_eq, Option, Some, None, Ok, refl, sym, ◌∙◌, subst, arith}
use Rattle.documents.specs.Kind as K
use Rattle.documents.specs.Kind.{Kind}
use Rattle.positions.specs.Position.{Position}
use Rattle.goals.specs.Signed.{Signed}
use Rattle.frames.specs.Frame.{Frame, is_at_end}
use Rattle.frames.specs.Plan.{Member, Plan, one_more, used, with_members, count_in, complete, plan_steps, need}
use Rattle.frames.specs.ArrayFrame as A
use Rattle.frames.specs.ArrayFrame.{array_frame}
use Rattle.list_laws.specs.In.{IsIn}
use Rattle.list_laws.proofs.Lists.{in_map}
use Rattle.alternatives.specs.Alternative.{Alternative, is_met}
use Rattle.expansions.specs.Leaves.{Naming, by_index, plan_alternative, array_leaf}
use Rattle.expansion_laws.proofs.Leaf.{ok_same}
use Rattle.expansion_laws.proofs.PlanLeaf.{met_same, complete_plan, IsOpen, leaf_is}
use Rattle.certificate_lines.specs.Line as L
use Rattle.certificate_lines.specs.Line.{Line}
use Rattle.verdicts.specs.Duties.{OfSet, Form, OfArrays, plan_duty}
use Rattle.refutations.specs.PlanTreeLines.{plan_lines}
use Rattle.refutation_laws.proofs.Does.{Does, line_does, one_left}
use Rattle.refutation_laws.proofs.CompleteLines.{can, complete_shows}
use Rattle.refutation_laws.proofs.PlanTrees.{with_bounds, plan_does}
use Rattle.std.proofs.lemmas.Bool.{both_ways}

used_long : (hs : List (List Signed)) → used hs ≤ length hs
used_long [] = omega arith
used_long (h ∷ hs) = let l = used_long hs in go h (used hs) l where
  go : (h : List Signed) (n : ℕ) → n ≤ length hs → one_more h n ≤ suc (length hs)
  go [] zero l = omega arith
  go [] (suc n) l = omega (arith, l)
  go (d ∷ h) n l = omega (arith, l)

all_members : (n : ℕ) (ms : List Member) → with_members n ms ≤ n + length ms
all_members n [] = omega arith
all_members n (m ∷ ms) = omega arith

count_le : (c : ℕ) (ms : List Member) → count_in c ms ≤ length ms
count_le c [] = omega arith
count_le c (m ∷ ms) = go (nat_eq m.cell c) (count_le c ms) where
  go : (b : Bool) → count_in c ms ≤ length ms → cond b (suc (count_in c ms)) (count_in c ms) ≤ suc (length ms)
  go true l = omega (arith, l)
  go false l = omega (arith, l)

-- a plan needs what the lower bound has more than first places and members
need_is : (frame : Frame) (q : Plan) → frame.floor ≤ frame.lower → length q.heads ≡ frame.heads
    → need frame q ≤ frame.lower - (frame.heads + length q.members)
need_is frame q f e = omega (arith, f, e, used_long q.heads, all_members frame.heads q.members)

module _ (form : Form) (N : Naming) (t : Kind) (k : ℕ) (T : List Position) (frame : Frame)
    (cite : ℕ → List Signed → Bool) (number : List Signed → Option ℕ)
    (cited : (g : List Signed) (k : ℕ) → number g ≡ Some k → cite k g ≡ true)
    (low : frame.floor ≤ frame.lower) (counted : frame.lower ≤ 65536)
    (leaves : (c b n : ℕ) → frame.cap c ≡ Some b → b - n ≤ frame.room c n)
    (endless : (c n : ℕ) → frame.cap c ≡ None → 65537 ≤ frame.room c n + n)
    (unmet : (q : Plan) → IsIn q (complete (plan_steps T frame))
    → is_met (can number) (plan_alternative N t k T frame q) ≡ false)
    (caps : ℕ → Option ℕ) (room : ℕ → ℕ → ℕ) (agree : (c : ℕ) → IsIn c frame.cells → caps c ≡ frame.cap c) where
  pub leaf_does : Does T cite (plan_duty form (with_bounds frame caps room)) (plan_lines number form T frame)
  leaf_does =
      plan_does form T frame cite number caps room agree (λ q i.
      let h = complete_plan T frame q i in
      complete_shows form T frame cite number cited q
      (λ c b e. leaves c b (count_in c q.members) e)
      (λ c e. enough q (need_is frame q low h.kept.heads_long) c (endless c (count_in c q.members) e))
      h.clear
      (sym (met_same N (can number) T frame t k q h) ∙ unmet q i))
    where
      enough : (q : Plan) → need frame q ≤ frame.lower - (frame.heads + length q.members) → (c : ℕ)
          → 65537 ≤ frame.room c (count_in c q.members) + count_in c q.members
          → need frame q ≤ frame.room c (count_in c q.members)
      enough q n c e = omega (arith, n, e, counted, count_le c q.members)

module _ (T : List Position) (S : List Signed) (cite : ℕ → List Signed → Bool) (number : List Signed → Option ℕ)
    (cited : (g : List Signed) (k : ℕ) → number g ≡ Some k → cite k g ≡ true) where
  abbrev make : ℕ → Frame → Plan → Alternative
  make k frame q = plan_alternative by_index K.Array k T frame q

  array_list : (k : ℕ) (more : List Alternative)
      → IsOpen (make k) T (A.lower T S) (Ok (array_frame T S)) more
      → more ≡ map (make k (array_frame T S)) (complete (plan_steps T (array_frame T S)))
  array_list k more o =
      let q = ok_same (array_frame T S) o.frame (Ok (array_frame T S)) refl o.is_frame in
      subst (λ f. more ≡ map (make k f) (complete (plan_steps T f))) (sym q) o.is

  -- the lines of a set at arrays do its duty, where no alternative of its leaf is met
  pub arrays_do : (k : ℕ) (more : List Alternative) → is_at_end (A.lower T S) (A.below T S) ≡ false
      → array_leaf T k S ≡ Ok more
      → ((a : Alternative) → IsIn a more → is_met (can number) a ≡ false)
      → Does T cite (OfSet K.Array S) (L.Arrays ∷ plan_lines number OfArrays T (array_frame T S))
  arrays_do k more free e unmet = ⊎_elim
      (λ (x, y). absurd (both_ways (is_at_end (A.lower T S) (A.below T S)) free x))
      (λ (x, o).
      line_does T cite (OfSet K.Array S) L.Arrays (plan_duty OfArrays (array_frame T S) ∷ [])
      (plan_lines number OfArrays T (array_frame T S)) refl
      (one_left T cite (plan_duty OfArrays (array_frame T S)) (plan_lines number OfArrays T (array_frame T S))
      (leaf_does OfArrays by_index K.Array k T (array_frame T S) cite number cited (omega arith) o.counted
      (λ c b n h. no_cap b (65537) n h) (λ c n h. omega arith)
      (λ q i. unmet (make k (array_frame T S) q)
      (subst (λ z. IsIn (make k (array_frame T S) q) z) (sym (array_list k more o))
      (in_map (make k (array_frame T S)) q (complete (plan_steps T (array_frame T S))) i)))
      (array_frame T S).cap (array_frame T S).room (λ c i. refl))))
      (leaf_is (make k) T (A.lower T S) (A.below T S) (Ok (array_frame T S)) more e)
    where
      no_cap : (b r n : ℕ) → None ≡ Some b → b - n ≤ r
      no_cap b r n h = cc

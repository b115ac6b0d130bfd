-- The first that is placed and clashes or is cited, one after another; and the line of a complete plan.
use Rattle.std.proofs.Common.{◌≡◌, ℕ, zero, suc, ◌<◌, ◌≤◌, List, [], ◌∷◌, map, drop, length, Bool, cond, nat_eq, Option, Some, None, slice_get, refl, arith, ap, ap₂, sym, ◌∙◌}
use Rattle.std.specs.Option.{is_none}
use Rattle.positions.specs.Position.{Position}
use Rattle.goals.specs.Signed.{Signed}
use Rattle.frames.specs.Frame.{Place, In, Frame}
use Rattle.frames.specs.Fillers.{times}
use Rattle.frames.specs.Plan.{Plan, placed, goal_of, clash_from}
use Rattle.certificate_lines.specs.Line as L
use Rattle.certificate_lines.specs.Line.{Line, Kept}
use Rattle.verdicts.specs.Duties.{Form, heads_placed}
use Rattle.refutations.specs.PlanTreeLines.{at_line, number_of, filler_entry, entry_at, cited_or, first_cited, complete_line}
use Rattle.js_plans.specs.declared.server.Server.{Server}
use Rattle.js_plans.specs.Serving.{plan_after}
use Rattle.js_plans.specs.Servers.{cells_of}
use Rattle.js_plan_lines.specs.Reach.{IsPath, server_at, seen}
use Rattle.js_plan_lines.specs.Cited.{cited_as, cited_from, entry_in}
use Rattle.js_plan_lines.proofs.Placing.{placed-at}
use Rattle.js_plans.proofs.Options.{times-cells}
use Rattle.js_plans.proofs.Plans.{cells-all}

abbrev value : {A : Type 0} → A → Option A → A
value x None = x
value x (Some y) = y

drop-get : {A : Type 0} (xs : List A) (k : ℕ) (x : A) → k < length xs → slice_get xs k ≡ Some x
    → drop k xs ≡ x ∷ drop (suc k) xs
drop-get [] k x l e = absurd (omega (arith, l))
drop-get (y ∷ ys) zero x l e = ap (λ o. value y o ∷ ys) e
drop-get (y ∷ ys) (suc k) x l e = drop-get ys k x (omega (arith, l)) e

module _ (T : List Position) (frame : Frame) (ws : List Server) (path : IsPath frame ws) (h k j : ℕ)
    (heads : h ≡ heads_placed frame (plan_after frame ws)) (less : k < length (placed frame (plan_after frame ws)))
    (next : j ≡ suc k) where
  abbrev all : List (Place × List Signed)
  all = placed frame (plan_after frame ws)

  cut : drop k all ≡ seen frame ws (server_at h k) ∷ drop j all
  cut =
      drop-get all k (seen frame ws (server_at h k)) less (placed-at frame ws path h k heads less)
      ∙ ap (λ n. seen frame ws (server_at h k) ∷ drop n all) (sym next)

  -- one more is looked at
  pub clash-next : (b : Bool) → b ≡ is_none (goal_of T frame (seen frame ws (server_at h k)))
      → clash_from T frame k (drop k all) ≡ cond b (Some k) (clash_from T frame j (drop j all))
  clash-next b is =
      ap (clash_from T frame k) cut
      ∙ ap₂ (λ x n. cond x (Some k) (clash_from T frame n (drop j all))) (sym is) (sym next)

  pub cited-next : (o : Option (List Signed)) → o ≡ goal_of T frame (seen frame ws (server_at h k))
      → (number : List Signed → Option ℕ) (c : Option ℕ) → c ≡ number_of number o
      → cited_from number T frame k (drop k all) ≡ cited_as k c (cited_from number T frame j (drop j all))
  cited-next o goal number c is =
      ap (cited_from number T frame k) cut
      ∙ ap₂ (λ x n. cited_as k (number_of number x) (cited_from number T frame n (drop j all))) (sym goal) (sym next)
      ∙ ap (λ x. cited_as k x (cited_from number T frame j (drop j all))) (sym is)

module _ (number : List Signed → Option ℕ) (form : Form) (T : List Position) (frame : Frame) where
  abbrev by_cited : Plan → Line → Option (ℕ × ℕ) → Line
  by_cited p l None = l
  by_cited p l (Some (k, n)) = at_line form frame p k (L.Cites n)

  first-cited : (p : Plan) (k : ℕ) (ss : List (Place × List Signed)) (l : Line)
      → first_cited number form T frame p k ss l ≡ by_cited p l (cited_from number T frame k ss)
  first-cited p k [] l = refl
  first-cited p k (s ∷ ss) l =
      ap (cited_or number form T frame p k (number_of number (goal_of T frame s))) (first-cited p (suc k) ss l)
      ∙ go (number_of number (goal_of T frame s)) where
        go : (o : Option ℕ) → cited_or number form T frame p k o (by_cited p l (cited_from number T frame (suc k) ss))
            ≡ by_cited p l (cited_as k o (cited_from number T frame (suc k) ss))
        go (Some n) = refl
        go None = refl

  abbrev short : Plan → Line
  short p = L.Short (map (entry_at number T frame p) frame.cells)

  pub complete-cited : (p : Plan) (k n : ℕ) → cited_from number T frame 0 (placed frame p) ≡ Some (k, n)
      → at_line form frame p k (L.Cites n) ≡ complete_line number form T frame p
  complete-cited p k n e = sym (first-cited p 0 (placed frame p) (short p) ∙ ap (by_cited p (short p)) e)

  pub complete-short : (p : Plan) → cited_from number T frame 0 (placed frame p) ≡ None
      → L.Short (map (entry_at number T frame p) frame.cells) ≡ complete_line number form T frame p
  complete-short p e = sym (first-cited p 0 (placed frame p) (short p) ∙ ap (by_cited p (short p)) e)

-- entries by the cells of the members
pub entries-are : (number : List Signed → Option ℕ) (T : List Position) (frame : Frame) (ws : List Server) (cs : List ℕ)
    → length ws ≤ length frame.demands
    → map (entry_in number T frame (cells_of ws)) cs ≡ map (entry_at number T frame (plan_after frame ws)) cs
entries-are number T frame ws [] l = refl
entries-are number T frame ws (c ∷ cs) l =
    ap₂ (λ n es. cond (nat_eq (frame.room c n) 0) Kept (filler_entry number (goal_of T frame (In c, []))) ∷ es)
    (ap (λ ms. times c ms) (sym (cells-all frame ws l)) ∙ times-cells c (plan_after frame ws).members)
    (entries-are number T frame ws cs l)

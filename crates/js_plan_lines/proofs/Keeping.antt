-- What was placed before the last server serves what it served, and doesn't clash where nothing clashed.
use Rattle.std.proofs.Common.{◌≡◌, ℕ, zero, suc, ◌+◌, ◌-◌, ◌<◌, List, [], ◌∷◌, ◌++◌, take, length, reverse, get_or, Bool, true, false, not, cond, Option, Some, None, slice_get, refl, arith, ap, ap₂, sym, ◌∙◌, subst, true≢false}
use Rattle.std.specs.Option.{is_none}
use Rattle.std.proofs.lemmas.Bool.{and_parts, ltb-true, not-true}
use Rattle.std.proofs.lemmas.List.{length-append, take-append-le}
use Rattle.std.proofs.Math.Seq.{take-length}
use Rattle.positions.specs.Position.{Position}
use Rattle.goals.specs.Signed.{Signed}
use Rattle.frames.specs.Frame as F
use Rattle.frames.specs.Frame.{Place, Frame}
use Rattle.frames.specs.Plan.{placed, goal_of, clash_from}
use Rattle.verdicts.specs.Duties.{heads_placed}
use Rattle.js_plans.specs.declared.server.Server.{Server}
use Rattle.js_plans.specs.declared.server.Server.TheVariants as V
use Rattle.js_plans.specs.Serving.{plan_after}
use Rattle.js_plans.specs.Servers.{cells_of, members_after, serves_too, earlier}
use Rattle.js_plans.specs.Goals.{place_after}
use Rattle.js_plan_lines.specs.declared.before.Before.{Before}
use Rattle.js_plan_lines.specs.Reach.{IsPath, seen}
use Rattle.js_plan_lines.specs.Kept.{IsClear, is_among, is_kept, AreBefore}
use Rattle.js_plan_lines.proofs.Placing.{heads-are, placed-count}
use Rattle.js_plans.proofs.Plans.{members_on-cons, valid-before}
use Rattle.js_plans.proofs.Placing.{at-head, at-member}

-- what comes before the last server
pub cut-last : (ws us : List Server) (s : Server) → ws ≡ us ++ s ∷ [] → take (length ws - 1) ws ≡ us
cut-last ws us s e =
    let n : length (us ++ s ∷ []) - 1 ≡ length us = omega (arith, length-append us (s ∷ [])) in
    ap (λ zs. take (length zs - 1) zs) e
    ∙ ap (λ k. take k (us ++ s ∷ [])) n
    ∙ take-append-le (length us) us (s ∷ []) (omega arith)
    ∙ take-length us

earlier-kept : (x s : Server) (ds : List Signed) (m n : ℕ) (us : List Server) → n ≡ m + length (cells_of us)
    → serves_too x n s ≡ false → earlier x ds m (us ++ s ∷ []) ≡ earlier x ds m us
earlier-kept x s [] m n [] e apart = refl
earlier-kept x s (d ∷ ds) m n [] e apart =
    let same : m ≡ n = omega (arith, e) in
    ap (λ b. cond b (d ∷ earlier x ds (members_after m s) []) (earlier x ds (members_after m s) []))
    (ap (λ k. serves_too x k s) same ∙ apart)
earlier-kept x s [] m n (w ∷ us) e apart = refl
earlier-kept x s (d ∷ ds) m n (w ∷ us) e apart =
    ap (λ r. cond (serves_too x m w) (d ∷ r) r)
    (earlier-kept x s ds (members_after m w) n us (omega (arith, e, members_on-cons m w us)) apart)

cell-kept : (us ss : List Server) (k : ℕ) → k < length (cells_of us)
    → get_or (cells_of (us ++ ss)) k 0 ≡ get_or (cells_of us) k 0
cell-kept [] ss k l = absurd (omega (arith, l))
cell-kept (V.Head i ∷ us) ss k l = cell-kept us ss k l
cell-kept (V.Member i ∷ us) ss k l = cell-kept us ss k l
cell-kept (V.New c ∷ us) ss zero l = refl
cell-kept (V.New c ∷ us) ss (suc k) l = cell-kept us ss k (omega (arith, l))

not_clash : (b : Bool) (i : ℕ) (o : Option ℕ) → cond b (Some i) o ≡ None → b ≡ false
not_clash true i o e = sym (ap is_none e)
not_clash false i o e = refl

abbrev or_else : {A : Type 0} → A → Option A → A
or_else x None = x
or_else x (Some y) = y

clear-at : (T : List Position) (frame : Frame) (i k : ℕ) (ss : List (Place × List Signed)) (x : Place × List Signed)
    → clash_from T frame i ss ≡ None → k < length ss → slice_get ss k ≡ Some x → is_none (goal_of T frame x) ≡ false
clear-at T frame i k [] x c l e = absurd (omega (arith, l))
clear-at T frame i zero (s ∷ ss) x c l e =
    ap (λ o. is_none (goal_of T frame (or_else s o))) (sym e)
    ∙ not_clash (is_none (goal_of T frame s)) i (clash_from T frame (suc i) ss) c
clear-at T frame i (suc k) (s ∷ ss) x c l e =
    let rest = clash_from T frame (suc i) ss in
    clear-at T frame (suc i) k ss x
    (sym (ap (λ b. cond b (Some i) rest) (not_clash (is_none (goal_of T frame s)) i rest c)) ∙ c)
    (omega (arith, l)) e

shorter : (frame : Frame) (us : List Server) (s : Server) → IsPath frame (us ++ s ∷ []) → IsPath frame us
shorter frame us s path = record {
  few = omega (arith, path.few, length-append us (s ∷ []));
  valid = valid-before frame.heads 0 us (s ∷ []) path.valid;
}

module _ (T : List Position) (frame : Frame) (us : List Server) (s : Server) (path : IsPath frame (us ++ s ∷ []))
    (clear : IsClear T frame us) where
  abbrev first : IsPath frame us
  first = shorter frame us s path

  seen-kept : (x : Server) → place_after (us ++ s ∷ []) x ≡ place_after us x
      → serves_too x (length (cells_of us)) s ≡ false → seen frame (us ++ s ∷ []) x ≡ seen frame us x
  seen-kept x same apart =
      ap₂ (λ a ds. (a, reverse ds)) same
      (earlier-kept x s frame.demands 0 (length (cells_of us)) us (omega arith) apart)

  stays-clear : (h m : ℕ) → h ≡ heads_placed frame (plan_after frame us) → m ≡ length (cells_of us) → (x : Server)
      → is_among h m x ≡ true → serves_too x m s ≡ false
      → is_none (goal_of T frame (seen frame (us ++ s ∷ []) x)) ≡ false
  stays-clear h m e f (V.Head k) a apart =
      let l : k < h = ltb-true k h a in
      ap (λ y. is_none (goal_of T frame y))
      (seen-kept (V.Head k) refl (ap (λ n. serves_too (V.Head k) n s) (sym f) ∙ apart))
      ∙ clear-at T frame 0 k (placed frame (plan_after frame us)) (seen frame us (V.Head k)) clear
      (omega (arith, l, e, heads-are frame us first, placed-count frame us first))
      (at-head frame us first.few first.valid k (omega (arith, l, e, heads-are frame us first)))
  stays-clear h m e f (V.Member j) a apart =
      let l : j < length (cells_of us) = omega (arith, ltb-true j m a, f) in
      ap (λ y. is_none (goal_of T frame y))
      (seen-kept (V.Member j) (ap F.In (cell-kept us (s ∷ []) j l))
      (ap (λ n. serves_too (V.Member j) n s) (sym f) ∙ apart))
      ∙ clear-at T frame 0 (h + j) (placed frame (plan_after frame us)) (seen frame us (V.Member j)) clear
      (omega (arith, l, e, heads-are frame us first, placed-count frame us first))
      (at-member frame us first.few first.valid j (h + j) (omega (arith, e, heads-are frame us first)) l)
  stays-clear h m e f (V.New c) a apart = absurd (true≢false (sym a))

pub path-before : (frame : Frame) (ws us : List Server) (s : Server) → ws ≡ us ++ s ∷ [] → IsPath frame ws
    → IsPath frame us
path-before frame ws us s e path = shorter frame us s (subst (IsPath frame) e path)

-- what is kept doesn't clash
pub kept-goal : (T : List Position) (frame : Frame) (ws : List Server) (b : Option Before) (x : Server)
    → IsPath frame ws → AreBefore T frame ws b → is_kept b x ≡ true
    → is_none (goal_of T frame (seen frame ws x)) ≡ false
kept-goal T frame ws None x path h k = absurd (true≢false (sym k))
kept-goal T frame ws (Some b) x path h k =
    let (a, apart) = and_parts (is_among b.heads b.members x) (not (serves_too x b.members b.last)) k in
    subst (λ us. is_none (goal_of T frame (seen frame us x)) ≡ false) (sym h.is)
    (stays-clear T frame h.path b.last (subst (IsPath frame) h.is path) h.clear b.heads b.members h.heads h.members x a
    (not-true (serves_too x b.members b.last) apart))

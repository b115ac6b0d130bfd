-- One more server of the path is passed.
use Rattle.std.proofs.Common.{◌≡◌, ℕ, suc, ◌+◌, ◌-◌, ◌<◌, List, ◌∷◌, drop, length, get_or, refl, arith, ap, sym, ◌∙◌, drop-cons}
use Rattle.js_plans.specs.declared.server.Server.{Server}
use Rattle.js_plans.specs.declared.server.Server.TheVariants as V
use Rattle.js_plans.specs.Servers.{with_cell, cells_of}
use Rattle.js_plan_lines.proofs.path.cell_of.Goals as goal
use Rattle.js_plan_lines.proofs.path.cell_of.Goals.{in-New+else-left-eq0, in_default}

abbrev at : List Server → ℕ → Server
at path i = get_or path i (V.Head 0)

one_passed : (path : List Server) (i left left' v : ℕ) → i < length path
    → get_or (with_cell (at path i) (cells_of (drop (suc i) path))) left 0
    ≡ get_or (cells_of (drop (suc i) path)) left' 0
    → get_or (cells_of (drop i path)) left 0 ≡ v → get_or (cells_of (drop (i + 1) path)) left' 0 ≡ v
one_passed path i left left' v l step e =
    let after : i + 1 ≡ suc i = omega arith in
    ap (λ n. get_or (cells_of (drop n path)) left' 0) after
    ∙ sym step
    ∙ sym (ap (λ us. get_or (cells_of us) left 0) (drop-cons path i (V.Head 0) l))
    ∙ e

new_passed : (s : Server) (c : ℕ) (cs : List ℕ) (left left' : ℕ) → s ≡ V.New c → (left ≡ 0 → ⊥)
    → left' ≡ left - 1 → get_or (with_cell s cs) left 0 ≡ get_or cs left' 0
new_passed s c cs left left' e some less =
    let next : left ≡ suc left' = omega (arith, some, less) in
    ap (λ z. get_or (with_cell z cs) left 0) e ∙ ap (λ n. get_or (c ∷ cs) n 0) next

none_passed : (s : Server) (cs : List ℕ) (left left' : ℕ) → ((c : ℕ) → s ≡ V.New c → ⊥) → left' ≡ left
    → get_or (with_cell s cs) left 0 ≡ get_or cs left' 0
none_passed (V.Head k) cs left left' old e = ap (λ n. get_or cs n 0) (sym e)
none_passed (V.Member k) cs left left' old e = ap (λ n. get_or cs n 0) (sym e)
none_passed (V.New c) cs left left' old e = absurd (old c refl)

pub loop-server-preserved : goal.loop-server-preserved
loop-server-preserved c =
    let path = c.args.path.now in
    let i = c.loop-server.server-index in
    let left = c.loop-server.left in
    let now = c.match-server.left in
    let cs = cells_of (drop (suc i) path) in
    one_passed path i left now (get_or (cells_of path) c.args.member 0) c.loop-server-test.true
    (elim c.match-server.branch [
      | in-New+else-left-eq0 w ↦
          new_passed (at path i) w.in-New.cell cs left now w.in-New.is w.if-left-eq0.false w.left-is
      | in_default w ↦ none_passed (at path i) cs left now w.in_default.not-New w.left-is
    ])
    c.loop-server.invariant

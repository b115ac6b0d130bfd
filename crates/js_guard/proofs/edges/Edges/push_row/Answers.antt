-- The new row comes behind the others, which stay.
use Rattle.std.proofs.Common.{◌≡◌, ◌≤◌, ◌++◌, ◌∷◌, [], length, true, ap, ap₂, sym, ◌∙◌, subst, arith, length-append}
use Rattle.documents.specs.Tests.{every}
use Rattle.js_guard.specs.declared.edges.Row.{Row}
use Rattle.js_guard.specs.Rows.{rows_of, is_inside}
use Rattle.js_guard.proofs.RowsLemmas.{all_inside-push, all_inside-more, rows_of-push, is_inside-new}
use Rattle.js_guard.proofs.edges.Edges.push_row.Goals as goal

pub invariant_of-self-in_err-push : goal.invariant_of-self-in_err-push
invariant_of-self-in_err-push c =
    let old = c.self.inside in
    let ts = c.extend_from_slice.new.self.items in
    let longer : length old.targets.items ≤ length ts =
    omega (arith, ap length c.in_ok-extend_from_slice.ensures.items, length-append old.targets.items c.args.row.now) in
    subst (λ rows. every (is_inside (length ts)) rows ≡ true) (sym c.in_err-push.ensures.items)
    (all_inside-more (length old.targets.items) (length ts) old.rows.items longer c.self.invariant)

pub invariant_of-self-2 : goal.invariant_of-self-2
invariant_of-self-2 c =
    let old = c.self.inside in
    let us = old.targets.items ++ c.args.row.now in
    let r : Row = record { start = c.len-start.result; end = c.len-end.result } in
    let grown = c.in_ok-extend_from_slice.ensures.items in
    let start : r.start ≡ length old.targets.items = omega arith in
    let end : r.end ≡ length (old.targets.items ++ c.args.row.now) = omega (arith, ap length grown) in
    let longer : length old.targets.items ≤ length us = omega (arith, length-append old.targets.items c.args.row.now) in
    let new = is_inside-new old.targets.items c.args.row.now r start end in
    subst (λ rows. every (is_inside (length c.extend_from_slice.new.self.items)) rows ≡ true)
    (sym c.in_ok-push.ensures.items)
    (subst (λ ts. every (is_inside (length ts)) (old.rows.items ++ r ∷ []) ≡ true) (sym grown)
    (all_inside-push (length old.targets.items) (length us) old.rows.items r longer c.self.invariant new))

pub returns : goal.returns
returns c =
    let old = c.self.inside in
    let r : Row = record { start = c.len-start.result; end = c.len-end.result } in
    let grown = c.in_ok-extend_from_slice.ensures.items in
    let start : r.start ≡ length old.targets.items = omega arith in
    let end : r.end ≡ length (old.targets.items ++ c.args.row.now) = omega (arith, ap length grown) in
    ap₂ rows_of c.in_ok-push.ensures.items grown
    ∙ rows_of-push old.targets.items c.args.row.now old.rows.items r c.self.invariant start end
    ∙ ap (λ g. g ++ c.args.row.now ∷ []) c.self.view_is

-- The end is kept for the position with plus.
use Rattle.std.proofs.Common.{◌≡◌, ap, sym, ◌∙◌, subst, map, true, arith}
use Rattle.std.proofs.lemmas.List.{get_or-map, length-map}
use Rattle.goals.specs.Signed.{Plus}
use Rattle.goals.specs.Goal.{follow}
use Rattle.js_algebra.specs.View.{node_view, signed_view, is_in_table, Table}
use Rattle.js_algebra.specs.Ends.{signed_by}
use Rattle.js_algebra.proofs.Ended.{inside, follow-signed, follow-in_table}
use Rattle.js_algebra.proofs.table.Core.follow.Goals as goal

pub returns-clause-value : goal.returns-clause-value
returns-clause-value c =
    let v = c.self.view_is in
    let T = map node_view c.self.inside.nodes in
    let p = c.args.x.pos.0 in
    let i : is_in_table T (signed_view c.args.x) ≡ true =
    subst (λ (t : Table). is_in_table t.positions (signed_view c.args.x) ≡ true) (sym v) c.requires in
    let l = inside T c.args.x.plus p i in
    let found : signed_view c.index.result.now ≡ follow T (Plus p) =
    ap signed_view c.index.ensures
    ∙ sym (get_or-map signed_view c.self.inside.ends.items p c.index.result.now (Plus p)
    (omega (arith, l, c.self.invariant.ended.count, length-map c.self.inside.ends.items signed_view)))
    ∙ c.self.invariant.ended.each p l in
    c.signed_by.ensures ∙ ap (signed_by c.args.x.plus) found ∙ sym (follow-signed T c.args.x.plus p)
    ∙ ap (λ (t : Table). follow t.positions (signed_view c.args.x)) v

pub returns-clause-in_table : goal.returns-clause-in_table
returns-clause-in_table c =
    let v = c.self.view_is in
    let T = map node_view c.self.inside.nodes in
    let i : is_in_table T (signed_view c.args.x) ≡ true =
    subst (λ (t : Table). is_in_table t.positions (signed_view c.args.x) ≡ true) (sym v) c.requires in
    ap (is_in_table c.args.self.now.positions) (returns-clause-value c)
    ∙ subst (λ (t : Table). is_in_table t.positions (follow t.positions (signed_view c.args.x)) ≡ true) v
    (follow-in_table T c.self.inside.ranks c.self.invariant.table (signed_view c.args.x) i)

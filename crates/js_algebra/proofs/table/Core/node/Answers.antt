-- The node at a place stands for the position there, and the table's test covers it.
use Rattle.std.proofs.Common.{◌≡◌, ◌<◌, length, get_or, map, sym, ap, arith}
use Rattle.std.proofs.Math.ListN.{length-map}
use Rattle.position_laws.proofs.Tables.{is_table-in_range}
use Rattle.js_algebra.specs.View.{node_view}
use Rattle.js_algebra.proofs.Tables.{position_at-map, names_below-position_at}
use Rattle.js_algebra.proofs.table.Core.node.Goals as goal

pub returns-clause-value : goal.returns-clause-value
returns-clause-value c =
    let v = c.self.view_is in
    let l : c.args.p.0 < length c.self.inside.nodes =
    omega (arith, length-map c.self.inside.nodes node_view, ap (λ t. length t.positions) v) in
    let e : c.index-as_slice-p.result ≡ get_or c.self.inside.nodes c.args.p.0 c.index-as_slice-p.result = cc in
    rw (← v) (sym (position_at-map c.self.inside.nodes c.args.p.0 c.index-as_slice-p.result l e))

pub returns-clause-named : goal.returns-clause-named
returns-clause-named c =
    let v = c.self.view_is in
    let l : c.args.p.0 < length c.self.inside.nodes =
    omega (arith, length-map c.self.inside.nodes node_view, ap (λ t. length t.positions) v) in
    let e : c.index-as_slice-p.result ≡ get_or c.self.inside.nodes c.args.p.0 c.index-as_slice-p.result = cc in
    let m : c.args.p.0 < length (map node_view c.self.inside.nodes) =
    omega (arith, length-map c.self.inside.nodes node_view) in
    rw (← v)
    (rw (← position_at-map c.self.inside.nodes c.args.p.0 c.index-as_slice-p.result l e)
    (names_below-position_at (map node_view c.self.inside.nodes) c.self.inside.ranks c.args.p.0 c.self.invariant.table
    m))

pub returns-clause-range : goal.returns-clause-range
returns-clause-range c =
    let v = c.self.view_is in
    let l : c.args.p.0 < length c.self.inside.nodes =
    omega (arith, length-map c.self.inside.nodes node_view, ap (λ t. length t.positions) v) in
    let e : c.index-as_slice-p.result ≡ get_or c.self.inside.nodes c.args.p.0 c.index-as_slice-p.result = cc in
    rw (← position_at-map c.self.inside.nodes c.args.p.0 c.index-as_slice-p.result l e)
    (is_table-in_range (map node_view c.self.inside.nodes) c.self.inside.ranks c.self.invariant.table c.args.p.0)

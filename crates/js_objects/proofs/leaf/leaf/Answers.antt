-- Crossed bounds come first, then the limit on counts.
use Rattle.std.proofs.Common.{Ok, map, true, false, ap, sym, subst, ◌∙◌, arith}
use Rattle.finders.specs.Names.{cells_of}
use Rattle.js_algebra.specs.View.{signed_view}
use Rattle.js_expansion.specs.AlternativeView.{alternative_view}
use Rattle.js_objects.specs.Leaves.{Says}
use Rattle.js_objects.proofs.LeafLaws.{leaf-crossed, leaf-counts, leaf-planned, end-of}
use Rattle.js_objects.proofs.leaf.leaf.Goals as goal

pub returns-then-are_crossed : goal.returns-then-are_crossed
returns-then-are_crossed c =
    let T = c.args.core.now.positions in
    let S = map signed_view c.args.set.now in
    let b = c.of_objects-bounds.result in
    leaf-crossed T c.args.number S (cells_of T S)
    (end-of T S b.lower b.below c.are_crossed.result true c.of_objects-bounds.ensures.lower
    c.of_objects-bounds.ensures.below
    c.are_crossed.ensures c.if-are_crossed.true)
    ∙ ap Ok (sym (c.from_vec.ensures ∙ ap (map alternative_view) c.new.ensures.items))

pub returns-then-bounds-from : goal.returns-then-bounds-from
returns-then-bounds-from c =
    let T = c.args.core.now.positions in
    let S = map signed_view c.args.set.now in
    let b = c.of_objects-bounds.result in
    let most = c.from.ensures in
    let over = c.if-bounds-from.true in
    let least = c.of_objects-bounds.ensures.lower in
    leaf-counts T c.args.number S (cells_of T S)
    (end-of T S b.lower b.below c.are_crossed.result false c.of_objects-bounds.ensures.lower
    c.of_objects-bounds.ensures.below
    c.are_crossed.ensures c.if-are_crossed.false)
    (omega (arith, most, over, least))

pub returns : goal.returns
returns c =
    let T = c.args.core.now.positions in
    let S = map signed_view c.args.set.now in
    let b = c.of_objects-bounds.result in
    let most = c.from.ensures in
    let few = c.if-bounds-from.false in
    let least = c.of_objects-bounds.ensures.lower in
    subst (λ a. Says a c.open_leaf.result)
    (sym (leaf-planned T c.args.number S (cells_of T S)
    (end-of T S b.lower b.below c.are_crossed.result false c.of_objects-bounds.ensures.lower
    c.of_objects-bounds.ensures.below
    c.are_crossed.ensures c.if-are_crossed.false)
    (omega (arith, most, few, least))))
    c.open_leaf.ensures

-- Two lists are compared place by place: at the first that differs, or where one of them ends.
use Rattle.std.proofs.Common.{Ordering, sym, ap₂, ◌∙◌, arith}
use Rattle.js_doc.specs.declared.document.Doc.{Doc}
use Rattle.js_doc.specs.declared.rising.Named.{Named}
use Rattle.js_doc.specs.View.{view, member_view}
use Rattle.js_valid.specs.DocumentOrder.{document_cmp, items_cmp, members_cmp, named_cmp}
use Rattle.js_valid.proofs.OrderedLists.{differ_cmp, longer_cmp, shorter_cmp, ended_cmp, items_listed, members_listed}
use Rattle.js_valid.proofs.comparison.+compare.Goals as goal

abbrev of_docs : Doc → Doc → Ordering
of_docs x y = document_cmp (view x) (view y)

abbrev of_members : Named Doc → Named Doc → Ordering
of_members x y = named_cmp (member_view x) (member_view y)

pub compare_lists-returns-then-i-ys : goal.compare_lists-returns-then-i-ys
compare_lists-returns-then-i-ys t c =
    let xs = c.as_slice-xs.result.now in
    let ys = c.as_slice-ys.result.now in
    sym (ap₂ items_cmp (sym c.as_slice-xs.ensures.view) (sym c.as_slice-ys.ensures.view) ∙ items_listed view view xs ys
    ∙ sym c.loop-i.invariant.1
    ∙ longer_cmp of_docs c.loop-i.i xs ys c.loop-i-test.true (omega (arith, c.if-i-ys.true)))

pub compare_lists-returns-in_default : goal.compare_lists-returns-in_default
compare_lists-returns-in_default t c =
    let xs = c.as_slice-xs.result.now in
    let ys = c.as_slice-ys.result.now in
    c.compare.ensures
    ∙ sym (ap₂ items_cmp (sym c.as_slice-xs.ensures.view) (sym c.as_slice-ys.ensures.view)
    ∙ items_listed view view xs ys ∙ sym c.loop-i.invariant.1
    ∙ differ_cmp of_docs c.loop-i.i xs ys c.index-xs-i.result c.index-ys-i.result c.loop-i-test.true
    (omega (arith, c.if-i-ys.false)) c.index-xs-i.is c.index-ys-i.is
    (λ e. c.in_default.not-Equal (c.compare.ensures ∙ e)))

pub compare_lists-returns-then-xs-ys : goal.compare_lists-returns-then-xs-ys
compare_lists-returns-then-xs-ys t c =
    let xs = c.as_slice-xs.result.now in
    let ys = c.as_slice-ys.result.now in
    sym (ap₂ items_cmp (sym c.as_slice-xs.ensures.view) (sym c.as_slice-ys.ensures.view) ∙ items_listed view view xs ys
    ∙ sym c.loop-i.invariant.1
    ∙ shorter_cmp of_docs c.loop-i.i xs ys (omega (arith, c.loop-i-test.false))
    (omega (arith, c.loop-i.invariant.0, c.if-xs-ys.true)))

pub compare_lists-returns : goal.compare_lists-returns
compare_lists-returns t c =
    let xs = c.as_slice-xs.result.now in
    let ys = c.as_slice-ys.result.now in
    sym (ap₂ items_cmp (sym c.as_slice-xs.ensures.view) (sym c.as_slice-ys.ensures.view) ∙ items_listed view view xs ys
    ∙ sym c.loop-i.invariant.1
    ∙ ended_cmp of_docs c.loop-i.i xs ys (omega (arith, c.loop-i-test.false))
    (omega (arith, c.loop-i-test.false, c.if-xs-ys.false)))

pub compare_maps-returns-then-i-ys : goal.compare_maps-returns-then-i-ys
compare_maps-returns-then-i-ys t c =
    let xs = c.as_slice-xs.result.now in
    let ys = c.as_slice-ys.result.now in
    sym (ap₂ members_cmp (sym c.as_slice-xs.ensures.view) (sym c.as_slice-ys.ensures.view)
    ∙ members_listed member_view member_view xs ys ∙ sym c.loop-i.invariant.1
    ∙ longer_cmp of_members c.loop-i.i xs ys c.loop-i-test.true (omega (arith, c.if-i-ys.true)))

pub compare_maps-returns-in_default : goal.compare_maps-returns-in_default
compare_maps-returns-in_default t c =
    let xs = c.as_slice-xs.result.now in
    let ys = c.as_slice-ys.result.now in
    c.compare_members.ensures
    ∙ sym (ap₂ members_cmp (sym c.as_slice-xs.ensures.view) (sym c.as_slice-ys.ensures.view)
    ∙ members_listed member_view member_view xs ys ∙ sym c.loop-i.invariant.1
    ∙ differ_cmp of_members c.loop-i.i xs ys c.index-xs-i.result c.index-ys-i.result c.loop-i-test.true
    (omega (arith, c.if-i-ys.false)) c.index-xs-i.is c.index-ys-i.is
    (λ e. c.in_default.not-Equal (c.compare_members.ensures ∙ e)))

pub compare_maps-returns-then-xs-ys : goal.compare_maps-returns-then-xs-ys
compare_maps-returns-then-xs-ys t c =
    let xs = c.as_slice-xs.result.now in
    let ys = c.as_slice-ys.result.now in
    sym (ap₂ members_cmp (sym c.as_slice-xs.ensures.view) (sym c.as_slice-ys.ensures.view)
    ∙ members_listed member_view member_view xs ys ∙ sym c.loop-i.invariant.1
    ∙ shorter_cmp of_members c.loop-i.i xs ys (omega (arith, c.loop-i-test.false))
    (omega (arith, c.loop-i.invariant.0, c.if-xs-ys.true)))

pub compare_maps-returns : goal.compare_maps-returns
compare_maps-returns t c =
    let xs = c.as_slice-xs.result.now in
    let ys = c.as_slice-ys.result.now in
    sym (ap₂ members_cmp (sym c.as_slice-xs.ensures.view) (sym c.as_slice-ys.ensures.view)
    ∙ members_listed member_view member_view xs ys ∙ sym c.loop-i.invariant.1
    ∙ ended_cmp of_members c.loop-i.i xs ys (omega (arith, c.loop-i-test.false))
    (omega (arith, c.loop-i-test.false, c.if-xs-ys.false)))

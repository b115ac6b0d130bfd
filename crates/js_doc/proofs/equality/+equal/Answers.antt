use Rattle.std.proofs.Common.{◌≡◌, length, ap, sym, ◌∙◌}
use Rattle.documents.specs.Document.{elements, entries}
use Rattle.js_doc.specs.View.{view, member_view}
use Rattle.js_doc.proofs.Levels.{elements-of, entries-of, length-mapped, get_or-same}
use Rattle.js_doc.proofs.equality.+equal.Goals as goal

pub equal_lists-returns-then-xs-ys : goal.equal_lists-returns-then-xs-ys
equal_lists-returns-then-xs-ys t c =
    let xs = length-mapped view _ _ (elements-of _ _ c.as_slice-xs.ensures.view) in
    let ys = length-mapped view _ _ (elements-of _ _ c.as_slice-ys.ensures.view) in
    ((λ h. cc), (λ e. absurd (c.if-xs-ys.true (sym xs ∙ ap (λ l. length (elements l)) e ∙ ys))))

pub equal_maps-returns-then-xs-ys : goal.equal_maps-returns-then-xs-ys
equal_maps-returns-then-xs-ys t c =
    let xs = length-mapped member_view _ _ (entries-of _ _ c.as_slice-xs.ensures.view) in
    let ys = length-mapped member_view _ _ (entries-of _ _ c.as_slice-ys.ensures.view) in
    ((λ h. cc), (λ e. absurd (c.if-xs-ys.true (sym xs ∙ ap (λ l. length (entries l)) e ∙ ys))))

pub equal_lists-returns-then-not-equal : goal.equal_lists-returns-then-not-equal
equal_lists-returns-then-not-equal t c =
    let xs = elements-of _ _ c.as_slice-xs.ensures.view in
    let ys = elements-of _ _ c.as_slice-ys.ensures.view in
    let same : length c.as_slice-xs.result.now ≡ length c.as_slice-ys.result.now = c.if-xs-ys.false in (
      (λ h. cc),
      (λ e. c.if-not-equal.ensures.1 (get_or-same view _ _ c.loop-i.i _ _ c.loop-i-test.true same c.index-xs-i.is
          c.index-ys-i.is (sym xs ∙ ap elements e ∙ ys))),
    )

pub equal_maps-returns-then-not-equal_members : goal.equal_maps-returns-then-not-equal_members
equal_maps-returns-then-not-equal_members t c =
    let xs = entries-of _ _ c.as_slice-xs.ensures.view in
    let ys = entries-of _ _ c.as_slice-ys.ensures.view in
    let same : length c.as_slice-xs.result.now ≡ length c.as_slice-ys.result.now = c.if-xs-ys.false in (
      (λ h. cc),
      (λ e. c.if-not-equal_members.ensures.1 (get_or-same member_view _ _ c.loop-i.i _ _ c.loop-i-test.true same
          c.index-xs-i.is c.index-ys-i.is (sym xs ∙ ap entries e ∙ ys))),
    )

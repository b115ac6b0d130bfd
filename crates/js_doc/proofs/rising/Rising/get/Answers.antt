use Rattle.std.proofs.Common.{Some, chars, sym, ap, ◌∙◌, rules}
use Rattle.std.proofs.lemmas.Fn.{always_returns_same}
use Rattle.js_doc.specs.Names.{rise, names_of, pair_of, pairs_of, find_in}
use Rattle.js_doc.proofs.Search.{names-pairs_of, order_of, found_member, absent_member}
use Rattle.js_doc.proofs.rising.Rising.get.Goals as goal

pub returns-in-Ok : goal.returns-in-Ok
returns-in-Ok g c =
    let items = c.as_slice-members.result.now in
    let name = c.args.name.now in
    let member = c.index-members-place.result in
    let rises = ap rise (names-pairs_of items ∙ ap (λ l. names_of l) c.as_slice-members.ensures)
    ∙ c.args.self.now.rises in
    let here = c.in-Ok.ensures.position (order_of pair_of name)
    (always_returns_same _ _ _ (λ a r q k. search rules)) member in
    sym (ap (λ m. Some m.value) c.index-members-place.is)
    ∙ sym (ap (λ l. find_in (chars name) (pairs_of l)) (sym c.as_slice-members.ensures)
    ∙ found_member pair_of items name c.utf8.name c.in-Ok.place member rises c.in-Ok.ensures.bound
    c.index-members-place.is (ap (order_of pair_of name) c.index-members-place.is ∙ here))

pub returns-in-Err : goal.returns-in-Err
returns-in-Err g c =
    let items = c.as_slice-members.result.now in
    let name = c.args.name.now in
    let rises = ap rise (names-pairs_of items ∙ ap (λ l. names_of l) c.as_slice-members.ensures)
    ∙ c.args.self.now.rises in
    let point = c.in-Err.ensures.position (order_of pair_of name)
    (always_returns_same _ _ _ (λ a r q k. search rules)) in
    sym (ap (λ l. find_in (chars name) (pairs_of l)) (sym c.as_slice-members.ensures)
    ∙ absent_member pair_of items name c.utf8.name c.in-Err.field-0 rises point)

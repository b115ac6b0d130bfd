use Rattle.std.proofs.Common.{◌≡◌, length, arith, sym, ◌∙◌}
use Rattle.std.proofs.lemmas.Bool.Decides.{nat_tests}
use Rattle.js_json.proofs.ReferenceLemmas.{is_own-empty, is_own-named, is_own-unnamed}
use Rattle.js_json.proofs.reference.is_own.Goals as goal

pub returns-then-is_empty : goal.returns-then-is_empty
returns-then-is_empty c =
    let none : length c.args.base.now ≡ 0 = grind (arith, nat_tests, c.is_empty.ensures, c.if-is_empty.true) in
    c.if-is_empty.true ∙ sym (is_own-empty c.args.base.now _ none)

pub returns-else-is_empty : goal.returns-else-is_empty
returns-else-is_empty c =
    rw c.in-Some.is (is_own-named c.args.base.now c.in-Some.id.now c.without_last_hash.result.now c.eq.result
    c.utf8.base
    c.without_last_hash.utf8 (λ none. grind (arith, nat_tests, c.is_empty.ensures, c.if-is_empty.false))
    c.without_last_hash.ensures c.eq.ensures)

pub returns-in-None : goal.returns-in-None
returns-in-None c =
    rw c.in-None.is (is_own-unnamed c.args.base.now c.is_empty-in-None.result c.utf8.base c.is_empty-in-None.ensures)

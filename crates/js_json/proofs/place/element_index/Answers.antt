use Rattle.std.proofs.Common.{sym, ap, ◌∙◌}
use Rattle.std.proofs.lemmas.Bool.{cond-false}
use Rattle.documents.specs.Place.{is_index}
use Rattle.js_json.proofs.PlaceLemmas.{index_of-parsed, index_of-chars}
use Rattle.js_json.proofs.place.element_index.Goals as goal

pub returns-then-is_index : goal.returns-then-is_index
returns-then-is_index c =
    let is = ap is_index (sym c.as_bytes.ensures.value) ∙ sym c.is_index.ensures ∙ c.if-is_index.true in
    rw c.ok.ensures.value (index_of-parsed c.args.token.now c.parse.result c.utf8.token is c.parse.ensures.value.0)

pub returns-else-is_index : goal.returns-else-is_index
returns-else-is_index c i is =
    let no = ap is_index (sym c.as_bytes.ensures.value) ∙ sym c.is_index.ensures ∙ c.if-is_index.false in
    let none = index_of-chars c.args.token.now c.utf8.token ∙ cond-false _ _ _ no in
    absurd (let e = sym none ∙ is in cc)

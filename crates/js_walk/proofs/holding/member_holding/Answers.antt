use Rattle.std.proofs.Common.{Some, None, sym, ◌∙◌}
use Rattle.js_walk.proofs.HoldingLemmas.{read_holding-given}
use Rattle.js_walk.proofs.holding.member_holding.Goals as goal

pub returns-in-None : goal.returns-in-None
returns-in-None c =
    read_holding-given c.args.listed c.as_text.result.now c.args.name.now None (sym c.in-None.is ∙ c.of.ensures)
    c.as_text.ensures.text

pub returns-in-Some : goal.returns-in-Some
returns-in-Some c =
    c.keyword_holding.ensures
    ∙ read_holding-given c.args.listed c.as_text.result.now c.args.name.now (Some c.in-Some.keyword)
    (sym c.in-Some.is ∙ c.of.ensures) c.as_text.ensures.text

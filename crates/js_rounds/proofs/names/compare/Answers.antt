-- Texts in the order of their bytes are in the order of their characters.
use Rattle.js_rounds.proofs.InOrder.{compare_is}
use Rattle.js_rounds.proofs.names.compare.Goals as goal

pub returns : goal.returns
returns c =
    compare_is c.as_text.result.now c.as_text-2.result.now c.args.a.now.name c.args.b.now.name c.cmp.result
    c.as_text.utf8
    c.as_text-2.utf8 c.as_text.ensures.text c.as_text-2.ensures.text c.cmp.ensures

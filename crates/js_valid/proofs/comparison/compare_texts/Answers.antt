use Rattle.std.proofs.Common.{◌∙◌}
use Rattle.js_valid.proofs.TextOrder.{bytes_cmp}
use Rattle.js_valid.proofs.comparison.compare_texts.Goals as goal

pub returns : goal.returns
returns c = c.cmp.ensures ∙ bytes_cmp c.args.a.now c.args.b.now c.utf8.a c.utf8.b

-- The text with the number is compared with the line.
use Rattle.std.proofs.Common.{refl, sym, ◌∙◌}
use Rattle.js_text.proofs.TableReading.{same-bytes, other-bytes}
use Rattle.js_text.proofs.table_reader.same_count.Goals as goal

pub returns-then-is_same : goal.returns-then-is_same
returns-then-is_same c =
    (refl, sym c.in_ok-write.ensures.bytes ∙ same-bytes _ c.args.line.now (sym c.is_same.ensures ∙ c.if-is_same.true))

pub returns : goal.returns
returns c e =
    other-bytes _ c.args.line.now (sym c.is_same.ensures ∙ c.if-is_same.false) (c.in_ok-write.ensures.bytes ∙ e)

use Rattle.std.proofs.Common.{sym, ap, ◌∙◌}
use Rattle.js_doc.proofs.Levels.{elements-of}
use Rattle.js_valid.specs.Choices.{is_one_of}
use Rattle.js_valid.proofs.choices.values_in.Goals as goal

pub returns : goal.returns
returns c = record {
  sorted = c.in_order.ensures.sorted;
  same = λ J.
      ap (is_one_of J) (elements-of _ _ c.as_slice.ensures.view ∙ sym c.in_ok-values.ensures)
      ∙ c.in_order.ensures.same J;
}

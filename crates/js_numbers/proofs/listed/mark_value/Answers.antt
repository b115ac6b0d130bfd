use Rattle.std.proofs.Common.{◌||◌, ap, false, get_or, ◌∙◌, to_z-of_z}
use Rattle.std.specs.Ordering.{int_eq}
use Rattle.js_numbers.specs.declared.candidates.TheConstants.{MOST_STRUCK}
use Rattle.js_numbers.specs.Marking.{is_at}
use Rattle.js_numbers.proofs.ListedLaws.{is_at-mark_of}
use Rattle.js_numbers.proofs.listed.mark_value.Goals as goal

pub returns : goal.returns
returns c = λ y k e.
    c.mark.ensures k
    ∙ ap (λ b. get_or c.args.listed.now k false || b)
    (ap (λ r. is_at r k) c.mark_of.ensures.value ∙ is_at-mark_of MOST_STRUCK c.args.start c.args.values.now _ y k e
    ∙ ap (λ x. int_eq x y) (to_z-of_z c.ranges.x))

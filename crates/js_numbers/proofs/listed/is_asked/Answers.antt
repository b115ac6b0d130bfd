use Rattle.std.proofs.Common.{◌≡◌, ◌∙◌, ◌&&◌, Bool, ℤ, ap, sym, to_z, of_z, to_z-of_z}
use Rattle.std.specs.Int.{w128}
use Rattle.std.specs.List.{list_all}
use Rattle.number_groups.specs.Multiples.{is_multiple}
use Rattle.js_doc.specs.Numbers.{has}
use Rattle.number_groups.specs.Group.{is_above, is_asked, is_below}
use Rattle.js_numbers.specs.View.{group_of}
use Rattle.js_numbers.proofs.listed.is_asked.Goals as goal
use Rattle.js_numbers.proofs.listed.is_asked.Goals.{then-is_within, else-is_within}

pub returns-then-is_common : goal.returns-then-is_common
returns-then-is_common c =
    let g = group_of c.args.group.now in
    let x : ℤ = to_z w128 (of_z w128 c.args.x) in
    let within : Bool = is_above g.low x && is_below g.high x in
    let common : Bool = list_all (λ m. is_multiple m x) g.multiples in
    let both : c.if-is_within.value ≡ (within && common) = elim c.if-is_within.branch [
      | then-is_within w ↦
          w.value-is ∙ w.is_common.ensures
          ∙ sym (ap (λ t. t && common) (sym c.is_within.ensures ∙ w.if-is_within.true))
      | else-is_within w ↦
          w.value-is ∙ w.if-is_within.false
          ∙ sym (ap (λ t. t && common) (sym c.is_within.ensures ∙ w.if-is_within.false))
    ] in
    c.all_have.ensures
    ∙ sym (ap (λ t. t && list_all (λ s. has s x) g.sets) (sym both ∙ c.if-is_common.true))
    ∙ ap (is_asked g) (to_z-of_z c.ranges.x)

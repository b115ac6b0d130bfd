-- One more bound, at its place behind those before.
use Rattle.std.proofs.Common.{get_or, ap, sym, ◌∙◌}
use Rattle.verdicts.specs.Bounds.{bounds_of}
use Rattle.js_check_objects.specs.Bounds.{bounds_in, past}
use Rattle.js_check_objects.specs.declared.stated_bound.StatedBound.{StatedBound}
use Rattle.js_check_objects.proofs.Caps.{cap_next}
use Rattle.js_check_objects.proofs.Stated.{bounds_more}
use Rattle.js_check_objects.proofs.open_bounds.OpenBounds.state.Goals as goal

pub invariant_of-result : goal.invariant_of-result
invariant_of-result c =
    let x = c.args.self in
    let b : StatedBound = record { cell = c.args.cell; labels = c.in_ok-to_vec.field-0 } in
    let more = bounds_more x.stated.items b c.push.new.self.items c.in_ok-push.ensures.items in
    let same = c.in_ok-to_vec.ensures.items_if_clones_equal (λ y e h. h) in
    record {
      in_table = x.in_table;
      atoms = x.atoms;
      whole = x.whole;
      named = x.named;
      grouped = x.grouped;
      placed = x.placed;
      capped = λ k.
          cap_next x.caps.items c.put_cap.new.caps.items (bounds_in x.stated.items) c.args.cell c.first_of.result
          c.in_ok-to_vec.field-0.items x.capped (c.first_of.ensures ∙ ap (λ z. get_or z 0 0) (sym same))
          c.in_ok-put_cap.ensures.caps k
          ∙ ap (λ bs. bounds_of bs k) (sym more);
      ended = c.in_ok-put_cap.ensures.length ∙ ap past (sym more);
    }

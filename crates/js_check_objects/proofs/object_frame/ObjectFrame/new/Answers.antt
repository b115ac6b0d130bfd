-- What is kept of the set is what its frame requires.
use Rattle.std.proofs.Common.{◌≡◌, map, true, ap, ◌∙◌, subst}
use Rattle.frames.specs.ObjectFrame as O
use Rattle.js_algebra.specs.View.{signed_view, are_in_table}
use Rattle.js_check_objects.specs.Cells.{cells_in}
use Rattle.js_name_tests.proofs.Framing.{names-in-table, demands-are, bars-within, servers-within, servers-are, values-are-within, values-are, allowed-are}
use Rattle.js_check_objects.proofs.object_frame.ObjectFrame.new.Goals as goal

pub bars_of-requires : goal.bars_of-requires
bars_of-requires c =
    names-in-table c.args.core.now.positions (cells_in c.args.cells) (map signed_view c.args.set.items) c.requires.names
    (map signed_view c.as_slice-names.result.now) (ap (map signed_view) c.as_slice-names.ensures.value)
    c.requires.in_table

pub demands_of-requires : goal.demands_of-requires
demands_of-requires c =
    names-in-table c.args.core.now.positions (cells_in c.args.cells) (map signed_view c.args.set.items) c.requires.names
    (map signed_view c.as_slice-names.result.now) (ap (map signed_view) c.as_slice-names.ensures.value)
    c.requires.in_table

pub values_of-requires : goal.values_of-requires
values_of-requires c =
    names-in-table c.args.core.now.positions (cells_in c.args.cells) (map signed_view c.args.set.items) c.requires.names
    (map signed_view c.as_slice-names.result.now) (ap (map signed_view) c.as_slice-names.ensures.value)
    c.requires.in_table

pub allowed-requires : goal.allowed-requires
allowed-requires c =
    bars-within c.args.core.now.positions (cells_in c.args.cells) (map signed_view c.args.set.items) c.requires.names
    (map signed_view c.as_slice-names.result.now) (ap (map signed_view) c.as_slice-names.ensures.value)
    c.deref.result.now
    (c.deref.ensures.value ∙ c.in_ok-bars.ensures)

pub invariant_of-result : goal.invariant_of-result
invariant_of-result c =
    let T = c.args.core.now.positions in
    let C = cells_in c.args.cells in
    let S = map signed_view c.args.set.items in
    let X = map signed_view c.as_slice-names.result.now in
    let named = c.requires.names in
    let listed = (ap (map signed_view) c.as_slice-names.ensures.value) in
    let demands = demands-are T C S named X listed (map signed_view c.in_ok-demands.demands.literals.items)
    c.in_ok-demands.ensures.literals in
    record {
      lower_is = c.of_objects-bounds.ensures.lower
          ∙ ap (λ z. O.lower T (map signed_view z)) c.as_slice.ensures.value;
      below_is = c.of_objects-bounds.ensures.below
          ∙ ap (λ z. O.below T (map signed_view z)) c.as_slice.ensures.value;
      demands_are = demands;
      demands_in_table = subst (λ z. are_in_table T z ≡ true) demands c.in_ok-demands.ensures.in_table;
      servers_are = servers-are T C S named X listed c.in_ok-demands.demands.tests.items c.in_ok-demands.ensures.tests;
      servers_within = servers-within T C S named X listed c.in_ok-demands.demands.tests.items
          c.in_ok-demands.ensures.tests;
      values_are = values-are T C S named X listed c.in_ok-values.values.items c.in_ok-values.ensures.value;
      values_within = values-are-within T C S named X listed c.in_ok-values.values.items c.in_ok-values.ensures.value;
      values_in_table = c.in_ok-values.ensures.in_table;
      allowed_are = allowed-are T C S named X listed c.deref.result.now
          (c.deref.ensures.value ∙ c.in_ok-bars.ensures) c.in_ok-allowed.allowed.items c.in_ok-allowed.ensures;
    }

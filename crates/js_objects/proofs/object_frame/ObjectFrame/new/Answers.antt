-- What is kept of the set is what its frame requires.
use Rattle.std.proofs.Common.{◌≡◌, map, filter, min, length, true, ap, ◌∙◌, subst}
use Rattle.frames.specs.ObjectFrame as O
use Rattle.js_algebra.specs.View.{signed_view, are_in_table}
use Rattle.js_cells.specs.View.{cells_view}
use Rattle.js_name_tests.specs.NameTests.{numbered_value, values_in_table}
use Rattle.js_name_tests.proofs.Framing.{names-in-table, demands-are, bars-within, servers-within, servers-are, values-are-within, values-are, allowed-are}
use Rattle.js_objects.proofs.Framing.{ArePassed-AreServed, get_or-asks, asks-in-table}
use Rattle.js_objects.proofs.Past.{counts-all}
use Rattle.js_objects.proofs.object_frame.ObjectFrame.new.Goals as goal

pub bars_of-requires : goal.bars_of-requires
bars_of-requires c =
    names-in-table c.args.core.now.positions (cells_view c.args.cells) (map signed_view c.args.set.now) c.requires.names
    (map signed_view c.names-names.result.now) c.names-names.ensures c.requires.in_table

pub demands_of-requires : goal.demands_of-requires
demands_of-requires c =
    names-in-table c.args.core.now.positions (cells_view c.args.cells) (map signed_view c.args.set.now) c.requires.names
    (map signed_view c.names-names.result.now) c.names-names.ensures c.requires.in_table

pub values_of-requires : goal.values_of-requires
values_of-requires c =
    names-in-table c.args.core.now.positions (cells_view c.args.cells) (map signed_view c.args.set.now) c.requires.names
    (map signed_view c.names-names.result.now) c.names-names.ensures c.requires.in_table

pub allowed-requires : goal.allowed-requires
allowed-requires c =
    bars-within c.args.core.now.positions (cells_view c.args.cells) (map signed_view c.args.set.now) c.requires.names
    (map signed_view c.names-names.result.now) c.names-names.ensures c.deref.result.now
    (c.deref.ensures.value ∙ c.in_ok-bars.ensures)

pub new-requires : goal.new-requires
new-requires c =
    servers-within c.args.core.now.positions (cells_view c.args.cells) (map signed_view c.args.set.now) c.requires.names
    (map signed_view c.names-names.result.now) c.names-names.ensures c.deref-2.result.now
    (c.deref-2.ensures.value ∙ c.in_ok-demands.ensures.tests)

pub asked-requires : goal.asked-requires
asked-requires c =
    values-are-within c.args.core.now.positions (cells_view c.args.cells) (map signed_view c.args.set.now)
    c.requires.names (map signed_view c.names-names.result.now) c.names-names.ensures c.deref-3.result.now
    (ap (map numbered_value) c.deref-3.ensures.value ∙ c.in_ok-values.ensures.value)

pub invariant_of-result : goal.invariant_of-result
invariant_of-result c =
    let T = c.args.core.now.positions in
    let C = cells_view c.args.cells in
    let S = map signed_view c.args.set.now in
    let X = map signed_view c.names-names.result.now in
    let named = c.requires.names in
    let listed = c.names-names.ensures in
    let demands = demands-are T C S named X listed (map signed_view c.in_ok-demands.demands.literals.items)
    c.in_ok-demands.ensures.literals in
    let tests = c.deref-2.result.now in
    let values = c.deref-3.result.now in
    let lists = c.in_ok-asked.asked.items in
    record {
      lower_is = c.requires.lower;
      below_is = c.requires.below;
      demands_are = demands;
      demands_in_table = subst (λ z. are_in_table T z ≡ true) demands c.in_ok-demands.ensures.in_table;
      inside_are = ArePassed-AreServed T C tests (filter (O.is_demand T) S)
          (servers-are T C S named X listed tests (c.deref-2.ensures.value ∙ c.in_ok-demands.ensures.tests))
          c.in_ok-inside.inside c.in_ok-inside.ensures;
      asked_are = λ k.
          get_or-asks C values lists c.in_ok-asked.ensures k
          ∙ values-are T C S named X listed values
          (ap (map numbered_value) c.deref-3.ensures.value ∙ c.in_ok-values.ensures.value) k;
      asked_in_table = λ k.
          ap (are_in_table T) (get_or-asks C values lists c.in_ok-asked.ensures k)
          ∙ asks-in-table C T k values
          (ap (values_in_table T) c.deref-3.ensures.value ∙ c.in_ok-values.ensures.in_table);
      allowed_are = allowed-are T C S named X listed c.deref.result.now
          (c.deref.ensures.value ∙ c.in_ok-bars.ensures) c.in_ok-allowed.allowed.items c.in_ok-allowed.ensures;
      counts_are = counts-all (λ k. min 65537 (length (C.words k))) c.in_ok-counts.counts.items (length C.vectors)
          c.in_ok-counts.ensures.length c.in_ok-counts.ensures.counts
          (λ k l. ap (λ w. min 65537 (length w)) (c.requires.none_past k l));
    }

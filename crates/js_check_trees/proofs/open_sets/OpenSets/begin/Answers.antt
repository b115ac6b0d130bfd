-- The path has the members of the goal, which rises.
use Rattle.std.proofs.Common.{◌∷◌, map, length, reverse, ap, ap₂, ◌∙◌}
use Rattle.std.proofs.lemmas.Result.{on_ok_weaker}
use Rattle.verdicts.specs.Duties.{OfSet}
use Rattle.js_algebra.specs.View.{signed_view, kind_view, are_in_table}
use Rattle.js_check_trees.specs.Choosing.{are_fine, duties_left}
use Rattle.js_check_trees.proofs.ChoiceLaws.{first_set}
use Rattle.js_check_trees.proofs.GrowthLaws.{grown_in_table}
use Rattle.js_check_trees.proofs.open_sets.OpenSets.begin.Goals as goal

pub invariant_of-self : goal.invariant_of-self
invariant_of-self c =
    let T = c.args.self.now.core.now.positions in
    record {
      in_table = grown_in_table T (map signed_view c.as_slice.result.now) c.args.self.now.set c.go_back.new.self
          c.add_list.new.set 0 c.add_list.result c.go_back.ensures c.add_list.ensures.members c.add_list.ensures.err
          (ap (are_in_table T) c.as_slice.ensures.list ∙ c.requires) c.args.self.now.in_table;
      fine = ap (λ es. are_fine T (length c.add_list.new.set) (reverse es)) c.clear.ensures.items;
    }

pub returns-clause-duties : goal.returns-clause-duties
returns-clause-duties c =
    let T = c.args.self.now.core.now.positions in
    let t = kind_view c.args.kind in
    on_ok_weaker c.add_list.result
    (λ e. ap₂ (λ S es. OfSet t S ∷ duties_left T t c.add_list.new.set (reverse es))
    (first_set c.args.goal.now c.add_list.new.set c.go_back.new.self (map signed_view c.as_slice.result.now)
    c.as_slice.ensures.rising e c.go_back.ensures c.as_slice.ensures.list) c.clear.ensures.items)
    c.add_list.ensures.members

-- The first of what is left is read.
use Rattle.std.proofs.Common.{◌≡◌, ◌∷◌, ◌+◌, drop, get_or, map, false, ap, ◌∙◌, sym}
use Rattle.std.proofs.lemmas.Bool.{and_parts}
use Rattle.number_finder.specs.SetGroup.{both, number_group}
use Rattle.js_algebra.specs.View.{signed_view, is_in_table, are_in_table}
use Rattle.js_algebra.specs.declared.signed.Signed.{Signed}
use Rattle.js_algebra.proofs.Contained.{drop-at}
use Rattle.js_scalars.specs.SoFar.{group_so_far}
use Rattle.js_scalars.proofs.Read.{read_one}
use Rattle.js_scalars.proofs.numbers.read_set.Goals as goal

abbrev nothing : Signed
nothing = record { pos = record { 0 = 0 }; plus = false }

pub loop-x-preserved : goal.loop-x-preserved
loop-x-preserved c =
    let T = c.args.core.now.positions in
    let x = get_or c.args.set.now c.loop-x.x-index nothing in
    let rest = drop (c.loop-x.x-index + 1) c.args.set.now in
    let split : x ∷ rest ≡ drop c.loop-x.x-index c.args.set.now =
    sym (drop-at c.args.set.now c.loop-x.x-index nothing c.loop-x-test.true) in
    record {
      group =
          read_one T (group_so_far c.loop-x.asked) (group_so_far c.add.new.self) x.plus x.pos.0 _
          (map signed_view rest) c.node.ensures.value c.in_ok-add.ensures
          ∙ ap (λ xs. both (group_so_far c.loop-x.asked) (number_group T (map signed_view xs))) split
          ∙ c.loop-x.invariant.group;
      in_table =
          (and_parts (is_in_table T (signed_view x)) (are_in_table T (map signed_view rest))
          (ap (λ xs. are_in_table T (map signed_view xs)) split ∙ c.loop-x.invariant.in_table)).1;
    }

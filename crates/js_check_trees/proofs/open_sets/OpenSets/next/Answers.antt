-- A rule without a choice left is forgotten, and the next choice of another one is added.
use Rattle.std.proofs.Common.{[], refl, arith, ap, sym, ◌∙◌}
use Rattle.js_algebra.specs.View.{signed_view, kind_view, are_in_table}
use Rattle.js_algebra.proofs.Grown.{members_in_table}
use Rattle.js_check_trees.specs.Choosing.{choice_at}
use Rattle.js_check_trees.specs.OpenSetsView.{duties_after}
use Rattle.js_check_trees.proofs.ChoiceLaws.{back_fine, next_left, none_at_hand}
use Rattle.js_check_trees.proofs.GrowthLaws.{grown_in_table, grown_fine}
use Rattle.js_check_trees.proofs.open_sets.OpenSets.next.Goals as goal

pub invariant_of-self-in-Break-branch-2 : goal.invariant_of-self-in-Break-branch-2
invariant_of-self-in-Break-branch-2 c =
    let o = c.loop-last.self in
    let T = o.core.now.positions in
    let t = kind_view o.kind in
    let e = c.in-Some.last in
    let C = choice_at T t (signed_view e.rule) e.next in
    record {
      in_table = grown_in_table T C o.set c.go_back.new.self c.add_choice.new.set e.members c.add_choice.result
          c.go_back.ensures c.add_choice.ensures.members c.add_choice.ensures.err c.add_choice.ensures.in_table
          o.in_table;
      fine = grown_fine T t C o.set c.go_back.new.self c.add_choice.new.set c.pop.new.self.items o.pending.items
          c.push.new.self.items e c.add_choice.result c.in-Some.ensures.items o.fine c.go_back.ensures
          c.in_ok-push.ensures.items c.add_choice.ensures.members c.add_choice.ensures.err;
    }

pub invariant_of-self-then-last-choice_count : goal.invariant_of-self-then-last-choice_count
invariant_of-self-then-last-choice_count c =
    let o = c.loop-last.self in
    let T = o.core.now.positions in
    let t = kind_view o.kind in
    let e = c.in-Some.last in
    let C = choice_at T t (signed_view e.rule) e.next in
    record {
      in_table = grown_in_table T C o.set c.go_back.new.self c.add_choice.new.set e.members c.add_choice.result
          c.go_back.ensures c.add_choice.ensures.members c.add_choice.ensures.err c.add_choice.ensures.in_table
          o.in_table;
      fine = grown_fine T t C o.set c.go_back.new.self c.add_choice.new.set c.pop.new.self.items o.pending.items
          c.push.new.self.items e c.add_choice.result c.in-Some.ensures.items o.fine c.go_back.ensures
          c.in_ok-push.ensures.items c.add_choice.ensures.members c.add_choice.ensures.err;
    }

pub invariant_of-self-else-last-choice_count : goal.invariant_of-self-else-last-choice_count
invariant_of-self-else-last-choice_count c =
    let o = c.loop-last.self in
    let T = o.core.now.positions in
    let e = c.in-Some.last in
    record {
      in_table = ap (are_in_table T) c.go_back.ensures ∙ members_in_table T [] o.set e.members refl o.in_table;
      fine = back_fine T (kind_view o.kind) o.set c.pop.new.self.items o.pending.items e c.in-Some.ensures.items o.fine
          c.go_back.new.self c.go_back.ensures;
    }

pub returns-then-last-choice_count-clause-duties : goal.returns-then-last-choice_count-clause-duties
returns-then-last-choice_count-clause-duties c =
    let o = c.loop-last.self in
    let T = o.core.now.positions in
    let t = kind_view o.kind in
    let e = c.in-Some.last in
    sym (next_left T t o.set c.pop.new.self.items o.pending.items e c.in-Some.ensures.items o.fine
    (choice_at T t (signed_view e.rule) e.next) c.go_back.new.self c.add_choice.new.set c.push.new.self.items
    c.go_back.ensures c.in_ok-add_choice.ensures.members c.in_ok-push.ensures.items refl
    (omega (arith, c.choice_count.ensures, c.if-last-choice_count.true)))
    ∙ c.loop-last.invariant.left ∙ none_at_hand _ _ (duties_after c.args.self.now) c.requires

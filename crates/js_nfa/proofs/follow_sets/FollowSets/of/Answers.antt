use Rattle.std.proofs.Common.{◌≡◌, ◌<◌, ◌&&◌, ◌||◌, ℕ, false, true, ◌∙◌, sym, ap, ap₂, subst}
use Rattle.state_laws.specs.Flow.{flag_at, ends_here}
use Rattle.state_laws.specs.FollowSets.{and_each, only, may_follow}
use Rattle.js_pattern.specs.View.{view}
use Rattle.js_pattern_positions.specs.Both.{some_both}
use Rattle.js_nfa.specs.FollowSets.{set_at, HaveLength, AreFours, is_shown, is_in_some}
use Rattle.js_nfa.proofs.FoursSteps.{fours_join, within-again}
use Rattle.js_nfa.proofs.FollowSetsSteps as S
use Rattle.js_nfa.proofs.follow_sets.FollowSets.of.Goals as goal

pub shown-requires-clause-long : goal.shown-requires-clause-long
shown-requires-clause-long c =
    subst (HaveLength c.args.count) (sym c.deref.ensures.value)
    (S.long-having (view c.args.tree.now) c.args.count c.in_ok-having.having.items c.requires.counted
    c.in_ok-having.ensures.length c.in_ok-having.ensures.sets)

pub fours-requires-clause-long : goal.fours-requires-clause-long
fours-requires-clause-long c = subst (HaveLength c.args.count) (sym c.deref-4.ensures.value) c.in_ok-sets.ensures.long

pub invariant_of-result : goal.invariant_of-result
invariant_of-result c =
    let as_many = sym c.in_ok-always.ensures.length in
    record {
      fours_within = within-again c.in_ok-fours.fours.items c.args.count _ as_many c.in_ok-fours.ensures.within;
      having_long = S.long-again c.in_ok-having.having.items c.args.count _ as_many
          (S.long-having (view c.args.tree.now) c.args.count c.in_ok-having.having.items c.requires.counted
          c.in_ok-having.ensures.length c.in_ok-having.ensures.sets);
      characters = c.in_ok-having.ensures.length;
    }

pub returns : goal.returns
returns c =
    let t = view c.args.tree.now in
    let always = c.in_ok-always.always.flags in
    let sets = c.in_ok-sets.field-0.sets.items in
    let fours = c.in_ok-fours.fours.items in
    let having = c.in_ok-having.having.items in
    let shown = c.in_ok-shown.shown.items in
    let none = S.flag-none c.in_ok-none.none.flags c.in_ok-none.ensures.flags in
    let ends = flag_at c.in_ok-sets.field-0.ends.flags in
    let in_some : (d q : ℕ) → d < 128 → flag_at (set_at having d) q ≡ true → is_in_some having shown q ≡ true =
    subst (λ hs. (d q : ℕ) → d < 128 → flag_at (set_at hs d) q ≡ true → is_in_some hs shown q ≡ true)
    c.deref.ensures.value c.in_ok-shown.ensures in
    let are : AreFours sets fours = subst (λ rs. AreFours rs fours) c.deref-4.ensures.value c.in_ok-fours.ensures.fours in
    record {
      counted = sym c.requires.counted ∙ sym c.in_ok-always.ensures.length;
      next = λ d ascii read.
          S.next_by_follow_sets t c.args.count c.requires.counted always sets having shown
          c.in_ok-always.ensures.length c.in_ok-sets.ensures.long c.in_ok-sets.ensures.length
          (λ q. c.in_ok-always.ensures.flags q
          ∙ ap₂ (λ r cs. flag_at (may_follow t false r 0 true) q && is_shown t cs q) none c.deref-2.ensures.value)
          (λ p q h. c.in_ok-sets.ensures.sets p q h
          ∙ ap (λ cs. flag_at (may_follow t false (only p) 0 false) q && is_shown t cs q) c.deref-3.ensures.value)
          c.in_ok-having.ensures.sets
          (λ e q h f. S.shows_all t c.args.count having c.in_ok-having.ensures.length c.in_ok-having.ensures.sets shown
          q (in_some e q h f)) d ascii read
          ∙ ap (λ flags. and_each flags (set_at having d)) (fours_join always sets fours read are);
      done = λ read.
          S.done_by_ends t c.args.count c.requires.counted c.in_ok-sets.field-0.ends.flags c.tree_ends-done.result
          (c.tree_ends-done.ensures ∙ ap (λ r. ends_here t false false r 0 true) none) c.in_ok-sets.ensures.ends read
          ∙ ap (λ n. c.tree_ends-done.result || some_both read ends n) (sym c.in_ok-always.ensures.length);
    }

use Rattle.std.proofs.Common.{◌≡◌, ◌||◌, ◌/◌, length, ◌∙◌, sym, ap, arith}
use Rattle.state_laws.specs.Flow.{flag_at}
use Rattle.js_pattern_positions.specs.Both.{some_both}
use Rattle.js_nfa.proofs.FoursSteps.{length-by_fours}
use Rattle.js_nfa.proofs.FollowSetsSteps as S
use Rattle.js_nfa.proofs.follow_sets.FollowSets.advance.Goals as goal

pub meet-requires : goal.meet-requires
meet-requires c =
    let sets = c.args.self.now in
    let one = S.set_at-read sets.having.items c.args.character c.index.result.now
    (omega (arith, c.requires.ascii, sets.characters)) c.index.ensures in
    ap length c.follow_all.ensures.flags
    ∙ length-by_fours sets.always.flags sets.fours.items (flag_at c.args.read.now.flags) (length sets.fours.items / 16)
    (omega arith) sets.fours_within
    ∙ sym (sets.having_long c.args.character (omega (arith, c.requires.ascii, sets.characters)))
    ∙ ap length one

pub returns-else-self-clause-done : goal.returns-else-self-clause-done
returns-else-self-clause-done c t are =
    let sets = c.args.self.now in
    let ends = flag_at sets.ends.flags in
    let count = length sets.always.flags in
    let one = S.set_at-read sets.having.items c.args.character c.index.result.now
    (omega (arith, c.requires.ascii, sets.characters)) c.index.ensures in
    let long : length c.meet.new.self.flags ≡ count =
    ap length c.meet.ensures.flags
    ∙ S.length-and_each c.follow_all.new.reads.flags c.index.result.now.flags count
    (ap length c.follow_all.ensures.flags
    ∙ length-by_fours sets.always.flags sets.fours.items (flag_at c.args.read.now.flags) (length sets.fours.items / 16)
    (omega arith) sets.fours_within)
    (sym (ap length one) ∙ sets.having_long c.args.character (omega (arith, c.requires.ascii, sets.characters))) in
    c.meets.ensures
    ∙ ap (some_both (flag_at c.meet.new.self.flags) ends) long
    ∙ sym (ap (λ b. b || some_both (flag_at c.meet.new.self.flags) ends count) c.if-self.false)
    ∙ sym (are.done (flag_at c.meet.new.self.flags))

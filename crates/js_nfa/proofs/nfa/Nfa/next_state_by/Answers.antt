use Rattle.std.proofs.Common.{false, true, length, ◌∙◌, ap}
use Rattle.state_laws.specs.Flow.{flag_at}
use Rattle.state_laws.proofs.FollowSetsLemmas.{length_follow}
use Rattle.js_nfa.specs.View.{tree_of}
use Rattle.js_nfa.proofs.nfa.Nfa.next_state_by.Goals as goal

pub next_in-requires-clause-long : goal.next_in-requires-clause-long
next_in-requires-clause-long c =
    let follow = c.requires c.in-Some-Some.follows c.in-Some-Some.is-0 in
    ap length follow.2 ∙ length_follow (tree_of c.args.self.now) false (flag_at follow.0) 0 true

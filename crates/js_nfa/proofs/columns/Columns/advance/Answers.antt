use Rattle.std.proofs.Common.{length, ◌∙◌, sym, ap, ap₂}
use Rattle.state_laws.specs.FollowSets.{and_each, or_each}
use Rattle.js_nfa.proofs.FollowSetsSteps.{set_at-read}
use Rattle.js_nfa.proofs.columns.Columns.advance.Goals as goal

pub meet-requires : goal.meet-requires
meet-requires c =
    let one = set_at-read c.args.self.now.having.items c.args.place c.index.result.now c.requires.place
    c.index.ensures in
    ap length (c.join.ensures.flags ∙ ap (λ z. or_each z c.args.follows.now.flags) c.requires.empty)
    ∙ c.requires.long ∙ ap length one

pub returns-clause-flags : goal.returns-clause-flags
returns-clause-flags c =
    let one = set_at-read c.args.self.now.having.items c.args.place c.index.result.now c.requires.place
    c.index.ensures in
    c.meet.ensures.flags
    ∙ ap₂ and_each (c.join.ensures.flags ∙ ap (λ z. or_each z c.args.follows.now.flags) c.requires.empty) (sym one)

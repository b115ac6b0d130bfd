use Rattle.std.proofs.Common.{arith}
use Rattle.std.proofs.lemmas.List.{get_or_read}
use Rattle.js_pattern_positions.proofs.SetLemmas.{word-read, word-past}
use Rattle.js_pattern_positions.proofs.position_set.PositionSet.word.Goals as goal

pub returns-then-index-len : goal.returns-then-index-len
returns-then-index-len c =
    rw (← c.self.view_is)
    (word-read c.self.inside.words.items c.self.inside.len c.self.inside.top c.self.invariant.2 c.self.invariant.3
    c.args.index c.index.result.now
    (get_or_read c.self.inside.words.items c.args.index _ (omega (arith, c.if-index-len.true, c.len.ensures))
    c.index.ensures 0))

pub returns-else-index-len : goal.returns-else-index-len
returns-else-index-len c =
    rw (← c.self.view_is)
    (word-past c.self.inside.words.items c.self.inside.len c.self.inside.top c.self.invariant.2 c.self.invariant.3
    c.args.index (omega (arith, c.if-index-len.false, c.len.ensures)))

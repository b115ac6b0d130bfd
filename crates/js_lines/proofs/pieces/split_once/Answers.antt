-- The byte is found, or another one is a part of what comes before it.
use Rattle.std.proofs.Common.{sym, ◌∙◌}
use Rattle.line_laws.proofs.PieceLaws.{split-found, split-grown}
use Rattle.js_lines.proofs.pieces.split_once.Goals as goal

pub returns-then-byte-at : goal.returns-then-byte-at
returns-then-byte-at c =
    split-found c.args.at c.args.text.now c.loop-i.i c.loop-i-test.true c.if-byte-at.true c.loop-i.invariant

pub loop-i-preserved : goal.loop-i-preserved
loop-i-preserved c =
    sym (split-grown c.args.at c.args.text.now c.loop-i.i c.loop-i-test.true c.if-byte-at.false) ∙ c.loop-i.invariant

use Rattle.std.proofs.Common.{add-one}
use Rattle.js_row_words.specs.Runs.{spelled}
use Rattle.js_row_words.proofs.RunLaws.{left_here, left_next}
use Rattle.js_row_words.proofs.runs.runs_of.Goals as goal

pub add_block-requires-clause-block : goal.add_block-requires-clause-block
add_block-requires-clause-block c =
    left_here (spelled c.loop-block.runs.items) c.args.blocks.now c.args.blocks.now c.loop-block.block-index
    c.loop-block.invariant.left c.loop-block-test.true

pub loop-block-preserved : goal.loop-block-preserved
loop-block-preserved c = rw add-one (record {
  left = left_next (spelled c.loop-block.runs.items) (spelled c.add_block.new.runs.items) c.args.blocks.now
      c.args.blocks.now c.loop-block.block-index c.loop-block.invariant.left c.loop-block-test.true
      c.in_ok-add_block.ensures.spelled;
  runs = c.in_ok-add_block.ensures.runs;
})

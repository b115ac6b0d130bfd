use Rattle.std.proofs.Common.{rules, ap, ◌∙◌}
use Rattle.documents.specs.Document.{items_of, null}
use Rattle.js_doc.proofs.PartTables.{all_numbers}
use Rattle.js_valid.proofs.PartFrameLaws.{nulls-more}
use Rattle.js_valid.proofs.part_frame.list_frame.Goals as goal

pub loop-preserved : goal.loop-preserved
loop-preserved c =
    nulls-more c.loop.items.items c.push.new.self.items c.as_slice-numbers.result.now c.loop.index c.loop-test.true
    (search rules) c.loop.invariant

pub returns : goal.returns
returns c =
    c.from_vec.ensures
    ∙ ap items_of (all_numbers (λ i. null) c.as_slice-numbers.result.now c.args.ids.now c.loop.index _
    c.as_slice-numbers.ensures c.loop-test.false c.loop.invariant)

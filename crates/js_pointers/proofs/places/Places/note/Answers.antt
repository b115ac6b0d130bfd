use Rattle.std.proofs.Common.{Some, ap, ◌∙◌}
use Rattle.std.specs.BTreeMap.{get}
use Rattle.js_pointers.specs.Numbered.{step_order}
use Rattle.js_pointers.specs.BlocksView.{block_of}
use Rattle.js_pointers.proofs.PlacesLemmas.{mark, keeps-others, gets-others, marked-other, noted-other}
use Rattle.js_pointers.proofs.places.Places.note.Goals as goal

pub invariant_of-self-2 : goal.invariant_of-self-2
invariant_of-self-2 c =
    let p = c.args.self.now in
    let was = c.block_at-block.ensures ∙ ap (λ bs. block_of bs c.args.of) c.deref.ensures.value in record {
      marked = marked-other p.blocks.items c.note_block-2.new.blocks.items (get step_order p.others)
          (get step_order c.insert.new.self) c.args.of c.args.token c.args.number
          (c.in_ok-note_block.ensures.own ∙ ap mark was)
          c.note_block-2.ensures.others
          (keeps-others p.others c.insert.new.self (c.args.of, c.args.token) (Some c.args.number) c.insert.result
          c.insert.ensures.updates c.insert.ensures.err)
          p.marked;
    }

pub returns-clause-noted : goal.returns-clause-noted
returns-clause-noted c =
    let p = c.args.self.now in
    let was = c.block_at-block.ensures ∙ ap (λ bs. block_of bs c.args.of) c.deref.ensures.value in
    noted-other p.blocks.items c.note_block-2.new.blocks.items (get step_order p.others)
    (get step_order c.insert.new.self) c.args.of c.args.token c.args.number
    (c.in_ok-note_block.ensures.own ∙ ap mark was)
    c.note_block-2.ensures.others
    (gets-others p.others c.insert.new.self (c.args.of, c.args.token) (Some c.args.number)
    c.in_ok-insert.ensures.updates)
    c.requires.new

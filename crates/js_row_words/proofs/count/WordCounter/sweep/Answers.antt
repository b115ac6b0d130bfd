use Rattle.std.proofs.Common.{◌+◌, sym, subst}
use Rattle.js_row_words.specs.CounterView.{atoms_of, rows_of}
use Rattle.js_row_words.proofs.RaisingLaws.{AreRaised, raised_row, raised_none}
use Rattle.js_row_words.proofs.count.WordCounter.sweep.Goals.{then-raise, else-raise}
use Rattle.js_row_words.proofs.count.WordCounter.sweep.Goals as goal

pub loop-i-preserved : goal.loop-i-preserved
loop-i-preserved c =
    let atoms = atoms_of c.args.self.now in
    let L = rows_of c.args.self.now in
    let marks = c.args.marks.now in
    let list = c.args.list.now in
    let first = c.args.labels.now in
    let now = c.raise.new.labels in
    elim c.if-raise.branch [
      | then-raise w ↦
          subst (λ z. AreRaised atoms L marks list first now z (c.loop-i.i + 1)) (sym w.rose-is)
          (raised_row atoms L marks list first c.loop-i.labels c.loop-i.rose c.loop-i.i c.loop-i-test.true
          c.loop-i.invariant now c.raise.ensures.size c.raise.ensures.cut c.raise.ensures.words
          c.raise.ensures.others (c.raise.ensures.rose w.if-raise.true))
      | else-raise w ↦
          subst (λ z. AreRaised atoms L marks list first now z (c.loop-i.i + 1)) (sym w.rose-is)
          (raised_none atoms L marks list first c.loop-i.labels c.loop-i.rose c.loop-i.i c.loop-i-test.true
          c.loop-i.invariant now c.raise.ensures.size c.raise.ensures.cut c.raise.ensures.words
          c.raise.ensures.others (c.raise.ensures.same w.if-raise.false) (c.raise.ensures.settled w.if-raise.false))
    ]

use Rattle.std.proofs.Common.{◌+◌, ◌-◌, ◌*◌, ◌<◌, cond, length, get_or, sym, ◌∙◌, subst}
use Rattle.std.specs.List.{sum}
use Rattle.js_row_words.specs.CounterView.{atoms_of, rows_of}
use Rattle.js_row_words.specs.Labels.{IsSettled}
use Rattle.js_row_words.proofs.RaisingLaws.{less_to_rise}
use Rattle.js_row_words.proofs.count.WordCounter.settle.Goals as goal

pub loop-rising-smaller : goal.loop-rising-smaller
loop-rising-smaller c =
    let s = less_to_rise c.loop-rising.labels c.sweep-rising.new.labels c.sweep-rising.result
    c.sweep-rising.ensures.size c.sweep-rising.ensures.cut c.sweep-rising.ensures.rose c.sweep-rising.ensures.same in
    subst (λ b. length c.sweep-rising.new.labels * 65537 - sum c.sweep-rising.new.labels
    + cond c.sweep-rising.result 1 0 < length c.loop-rising.labels * 65537 - sum c.loop-rising.labels + cond b 1 0)
    (sym c.loop-rising-test.true) s

pub loop-rising-preserved : goal.loop-rising-preserved
loop-rising-preserved c = record {
  size = c.sweep-rising.ensures.size ∙ c.loop-rising.invariant.size;
  cut = c.sweep-rising.ensures.cut;
  words = λ h. c.sweep-rising.ensures.words (c.loop-rising.invariant.words h);
  others = λ r none. c.sweep-rising.ensures.others r none ∙ c.loop-rising.invariant.others r none;
  settled = λ e i l. subst
      (λ z. IsSettled (atoms_of c.args.self.now) (rows_of c.args.self.now) c.args.marks.now z
      (get_or c.args.list.now i 0))
      (sym (c.sweep-rising.ensures.same e)) (c.sweep-rising.ensures.settled e i l);
}

pub returns-clause-settled : goal.returns-clause-settled
returns-clause-settled c = c.loop-rising.invariant.settled c.loop-rising-test.false

use Rattle.std.proofs.Common.{rules, ◌≡◌, ◌∙◌, ap, sym, false, slice_index, arith}
use Rattle.std.proofs.lemmas.Grind.{get_or_default_zero}
use Rattle.patterns.specs.CharSet.{has}
use Rattle.js_match.specs.Places.{is_at}
use Rattle.js_match.specs.Runs.{is_lone_end}
use Rattle.js_match.proofs.RunLaws as R
use Rattle.js_match.proofs.run.run_from.Goals as goal

pub loop-end-init : goal.loop-end-init
loop-end-init c = record {
  start = omega arith;
  from = λ h. R.begins-within c.args.set.now c.args.word.now c.args.start;
  ends = λ j. ap (is_at j) c.new-ends.ensures.items
      ∙ R.none-before c.args.set.now c.args.word.now c.args.start c.args.low c.args.high j;
}

pub returns-then-not-contains : goal.returns-then-not-contains
returns-then-not-contains c =
    let le = c.loop-end.invariant.start in
    let from = c.loop-end.invariant.from (omega (arith, c.loop-end-test.true)) in
    let here = R.lone-here c.args.set.now c.args.word.now c.args.start c.args.low c.args.high c.loop-end.end
    c.is_between.result le from c.is_between.ensures in
    let refused : has c.args.set.now c.index-word-end.result ≡ false = search rules in
    let out : has c.args.set.now (slice_index c.args.word.now c.loop-end.end) ≡ false = (
    ap (has c.args.set.now) (sym (c.index-word-end.is ∙ get_or_default_zero c.args.word.now c.loop-end.end
    c.index-word-end.result c.if-end-word.true)) ∙ refused
    ) in
    R.lone-stops c.args.set.now c.args.word.now c.args.start c.args.low c.args.high c.loop-end.end
    c.push_if.new.places.items le c.if-end-word.true out
    (R.one_more (is_lone_end c.args.set.now c.args.word.now c.args.start c.args.low c.args.high) c.loop-end.end
    c.is_between.result c.loop-end.ends.items c.push_if.new.places.items here c.loop-end.invariant.ends (search rules))

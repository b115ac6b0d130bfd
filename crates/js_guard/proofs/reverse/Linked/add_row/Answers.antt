-- One edge more is linked.
use Rattle.std.proofs.Common.{◌≡◌, ◌+◌, ◌<◌, length, get_or, ◌∙◌, refl, arith}
use Rattle.std.proofs.lemmas.List.{length-set, get_or_read}
use Rattle.js_guard.proofs.Linking.{row-more, row-all}
use Rattle.js_guard.proofs.reverse.Linked.add_row.Goals as goal

pub loop-target-preserved : goal.loop-target-preserved
loop-target-preserved c =
    let now = c.loop-target.self in
    let i = c.loop-target.target-index in
    let row = c.args.row.now in
    let kept = c.loop-target.invariant in
    let inside : i < length row = c.loop-target-test.true in
    let below : get_or row i 0 < length now.last.items = (let h = kept.heads in omega (arith, c.requires i inside)) in
    let read = get_or_read now.last.items (get_or row i 0) c.index-before.result.now below c.index-before.ensures 0 in
    let size : c.len.result ≡ length now.edges.items + 1 = omega (arith, c.in_ok-push.ensures.len) in
    record {
      heads = length-set now.last.items (get_or row i 0) c.len.result ∙ kept.heads;
      linked = λ L n h.
          (let l = kept.linked L n h in
          let heads = l.heads in
          row-more L n now.last.items _ now.edges.items c.push.new.self.items c.args.entry i c.len.result
          c.index-before.result.now row l inside (omega arith) read size refl c.in_ok-push.ensures.items);
    }

pub returns : goal.returns
returns c = λ L n h.
    row-all L n c.loop-target.self.last.items c.loop-target.self.edges.items c.args.entry c.loop-target.target-index
    c.args.row.now c.loop-target-test.false (c.loop-target.invariant.linked L n h)

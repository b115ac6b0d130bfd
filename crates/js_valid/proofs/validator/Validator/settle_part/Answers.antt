use Rattle.std.proofs.Common.{rules, ◌≡◌, ◌<◌, length, get_or, arith}
use Rattle.std.proofs.lemmas.List.{get_or_read}
use Rattle.js_valid.specs.PartTables.{document_of}
use Rattle.js_valid.specs.Plan.{table_of}
use Rattle.js_valid.proofs.PartVerdictLaws.{taken-more, taken-all}
use Rattle.js_valid.proofs.validator.Validator.settle_part.Goals as goal

pub loop-place-preserved : goal.loop-place-preserved
loop-place-preserved c =
    let order = c.args.self.now.plan.now.order.items in
    let place = c.loop-place.place in
    let less : place < length order = omega (arith, c.len-place-end.ensures, c.loop-place-test.true) in
    let read : c.index-entry.result.now ≡ get_or order place 0 = get_or_read order place _ less c.index-entry.ensures
    0 in
    record {
      len = search rules;
      known = taken-more (table_of c.args.self.now) order c.requires.plan.plan (document_of c.args.part.now) place
          c.loop-place.table.items c.set.new.table.items c.args.fine.now c.in_ok-verdict.verdict less
          c.loop-place.invariant.known c.requires.fine (search (rules, read)) (search (rules, read));
    }

pub returns : goal.returns
returns c =
    taken-all (table_of c.args.self.now) c.args.self.now.plan.now.order.items c.requires.plan.plan
    (document_of c.args.part.now) c.loop-place.place c.loop-place.table.items c.loop-place.invariant.len
    (omega (arith, c.len-place-end.ensures, c.loop-place-test.false)) c.loop-place.invariant.known

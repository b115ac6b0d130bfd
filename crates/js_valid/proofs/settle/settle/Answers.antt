use Rattle.std.proofs.Common.{◌≡◌, ◌-◌, ◌<◌, ◌&&◌, nat_eq, length, get_or, if◌then◌else◌, refl, ap, ◌∙◌, arith}
use Rattle.std.proofs.lemmas.List.{get_or_read}
use Rattle.draft06.specs.EntryValidity.{form_at}
use Rattle.js_doc.specs.View.{view}
use Rattle.js_schema.specs.SchemaView.{schema_view}
use Rattle.js_valid.specs.Parts.{flag}
use Rattle.js_valid.specs.Standing.{place_asks}
use Rattle.js_valid.proofs.AskedLaws.{taken-more, taken-all}
use Rattle.js_valid.proofs.settle.settle.Goals as goal

pub loop-left-preserved : goal.loop-left-preserved
loop-left-preserved c =
    let es = schema_view c.args.schema.now in
    let J = view c.args.doc.now in
    let owners = c.args.asked.now.owners.items in
    let place = c.loop-left.left - 1 in
    let within : place < length owners = omega (arith, c.loop-left.invariant.within, c.loop-left-test.true) in
    let read : c.index-entry.result.now ≡ get_or owners place 0 =
    get_or_read owners place _ within c.index-entry.ensures 0 in
    taken-more es J c.args.asked.now c.requires.asked c.loop-left.left c.loop-left.held.items c.write.new.table.items
    c.test_at.result c.verdict_of-verdict.result c.loop-left-test.true c.loop-left.invariant
    (c.test_at.ensures ∙ c.requires.parts place within)
    (c.verdict_of-verdict.ensures
    ∙ ap (λ bs. c.test_at.result && place_asks (flag bs) (form_at es c.index-entry.result.now) J)
    c.deref-in-loop-left.ensures.value
    ∙ ap (λ e. c.test_at.result && place_asks (flag c.loop-left.held.items) (form_at es e) J) read)
    (λ j. c.in_ok-write.ensures refl j
    ∙ ap (λ e. if nat_eq e j then c.verdict_of-verdict.result else flag c.loop-left.held.items j) read)

pub returns : goal.returns
returns c h =
    taken-all (schema_view c.args.schema.now) (view c.args.doc.now) c.args.asked.now c.requires.asked
    c.loop-left.held.items c.loop-left.left (omega (arith, c.loop-left-test.false)) c.loop-left.invariant

use Rattle.std.proofs.Common.{◌≡◌, ◌<◌, ◌≤◌, ◌^◌, length, true, arith, ap, ap₂, ◌∙◌}
use Rattle.std.proofs.lemmas.List.{length-map}
use Rattle.std.proofs.lemmas.Result.{IfOk-weaker}
use Rattle.documents.specs.Document.{Document, is_document}
use Rattle.patterns.specs.Decision.{finds}
use Rattle.draft06.specs.EntryValidity.{entry_valid}
use Rattle.positions.specs.Position.{is_table}
use Rattle.positions.specs.Holds.{holds}
use Rattle.normal_forms.specs.NormalForm.{table_of, ranks_of}
use Rattle.normal_laws.proofs.TableLaw.{is_table-normal}
use Rattle.normal_laws.proofs.Meaning.{normal-valid}
use Rattle.js_schema.specs.View.{form_view}
use Rattle.js_guard.specs.RankedView.{entries_of}
use Rattle.js_normal.specs.PatternTrees.{tree_of}
use Rattle.js_normal.specs.Tables.{made_of, with_all}
use Rattle.js_normal.proofs.SizeLaw.{table-small}
use Rattle.js_normal.proofs.TableRuns.{forms, start, all-step, whole, form-ranged, entries-ranged, table-root}
use Rattle.js_normal.proofs.normal.normalise.Goals as goal

pub rank-requires : goal.rank-requires
rank-requires c =
    let many = c.args.schema.now.counted in
    let size = c.len-entry-end.ensures.value in
    let more = c.loop-entry-test.true in omega (arith, many, size, more)

pub add_entry-requires : goal.add_entry-requires
add_entry-requires c =
    let s = c.args.schema.now in
    let es = entries_of s in
    let size = c.len-entry-end.ensures.value in
    let more = c.loop-entry-test.true in
    let within : c.loop-entry.entry < length es = omega (arith, size, more) in
    form-ranged es c.loop-entry.entry (form_view c.form.result.now) (entries-ranged es c.len.ensures.table) within
    c.form.ensures

pub loop-entry-preserved : goal.loop-entry-preserved
loop-entry-preserved c =
    let s = c.args.schema.now in
    let es = entries_of s in
    let many = s.counted in
    let size = c.len-entry-end.ensures.value in
    let more = c.loop-entry-test.true in
    let all = length-map es (λ e. e.form) in
    let in_forms : c.loop-entry.entry < length (forms es) = omega (arith, size, more, all) in
    let in_ranks : c.loop-entry.entry < length s.ranks = omega (arith, size, more, many) in
    all-step (forms es) s.ranks c.loop-entry.entry (form_view c.form.result.now) c.rank.result
    (made_of c.loop-entry.parts) (made_of c.add_entry.new.self) (with_all (forms es) s.ranks (start es))
    in_forms in_ranks c.form.ensures c.rank.ensures c.in_ok-add_entry.ensures c.loop-entry.invariant

pub into_core-requires-clause-table : goal.into_core-requires-clause-table
into_core-requires-clause-table c =
    let s = c.args.schema.now in
    let es = entries_of s in
    let size = c.len-entry-end.ensures.value in
    let past = c.loop-entry-test.false in
    let done : length es ≤ c.loop-entry.entry = omega (arith, size, past) in
    let w = whole es s.ranks c.loop-entry.entry (made_of c.loop-entry.parts) s.counted done
    c.loop-entry.invariant in
    let small = table-small tree_of es c.len.ensures.table in
    let few : length (table_of tree_of es) < 2 ^ 32 = omega (arith, small) in
    ap₂ is_table w.positions w.ranks ∙ is_table-normal tree_of es c.len.ensures.table s.ranks s.falls few

pub into_core-requires-clause-small : goal.into_core-requires-clause-small
into_core-requires-clause-small c =
    let s = c.args.schema.now in
    let es = entries_of s in
    let size = c.len-entry-end.ensures.value in
    let past = c.loop-entry-test.false in
    let done : length es ≤ c.loop-entry.entry = omega (arith, size, past) in
    let w = whole es s.ranks c.loop-entry.entry (made_of c.loop-entry.parts) s.counted done
    c.loop-entry.invariant in
    let small = table-small tree_of es c.len.ensures.table in
    let same = ap length w.positions in omega (arith, small, same)

pub returns-clause-positions : goal.returns-clause-positions
returns-clause-positions c =
    let s = c.args.schema.now in
    let es = entries_of s in
    let size = c.len-entry-end.ensures.value in
    let past = c.loop-entry-test.false in
    let done : length es ≤ c.loop-entry.entry = omega (arith, size, past) in
    let w = whole es s.ranks c.loop-entry.entry (made_of c.loop-entry.parts) s.counted done
    c.loop-entry.invariant in
    IfOk-weaker c.into_core.result _ (λ x. x.positions ≡ table_of tree_of es) (λ x h. h ∙ w.positions)
    c.into_core.ensures.positions

pub returns-clause-ranks : goal.returns-clause-ranks
returns-clause-ranks c =
    let s = c.args.schema.now in
    let es = entries_of s in
    let size = c.len-entry-end.ensures.value in
    let past = c.loop-entry-test.false in
    let done : length es ≤ c.loop-entry.entry = omega (arith, size, past) in
    let w = whole es s.ranks c.loop-entry.entry (made_of c.loop-entry.parts) s.counted done
    c.loop-entry.invariant in
    IfOk-weaker c.into_core.result _ (λ x. x.ranks ≡ ranks_of tree_of es s.ranks) (λ x h. h ∙ w.ranks)
    c.into_core.ensures.ranks

pub returns-clause-small : goal.returns-clause-small
returns-clause-small c =
    let s = c.args.schema.now in
    let es = entries_of s in
    let small = table-small tree_of es c.len.ensures.table in
    IfOk-weaker c.into_core.result _ (λ x. length x.positions < 2 ^ 31)
    (λ x h. let same = ap length h in omega (arith, small, same)) (returns-clause-positions c)

pub returns-clause-valid : goal.returns-clause-valid
returns-clause-valid c =
    let s = c.args.schema.now in
    let es = entries_of s in
    let small = table-small tree_of es c.len.ensures.table in
    let few : length (table_of tree_of es) < 2 ^ 32 = omega (arith, small) in
    let root : 0 < length es = table-root es c.len.ensures.table in
    IfOk-weaker c.into_core.result _
    (λ x. (J : Document) → is_document J ≡ true → holds x.positions 0 J
    ≡ entry_valid (λ t. finds (tree_of t)) es 0 J)
    (λ x h J d. ap (λ T. holds T 0 J) h
    ∙ normal-valid tree_of es c.len.ensures.table s.ranks s.falls few 0 J root d)
    (returns-clause-positions c)

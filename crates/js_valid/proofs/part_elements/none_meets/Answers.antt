-- The first element that meets the entry is found.
use Rattle.std.proofs.Common.{Bool, not, ◌&&◌, map, drop, get_or, length, sym, ap, ◌∙◌, ◌+◌, arith}
use Rattle.documents.specs.Document.{Document}
use Rattle.documents.specs.Tests.{every}
use Rattle.js_doc.specs.PartMembers.{number_of}
use Rattle.js_valid.specs.Plan.{valid_at}
use Rattle.js_valid.proofs.SamePartLaws.{below-at, item-same}
use Rattle.js_valid.proofs.PartElementLaws.{document_at, documents-are, every-here, every-past}
use Rattle.js_valid.proofs.part_elements.none_meets.Goals as goal

pub holds_at-requires : goal.holds_at-requires
holds_at-requires c =
    below-at number_of (length c.args.tables.now) c.loop-id.id-index c.as_slice-id-items.result.now c.args.ids.now
    (get_or c.as_slice-id-items.result.now c.loop-id.id-index (record { 0 = 0 })) c.as_slice-id-items.ensures c.requires
    c.loop-id-test.true (item-same c.as_slice-id-items.result.now c.loop-id.id-index _ _ c.loop-id-test.true)

pub returns-then-holds_at : goal.returns-then-holds_at
returns-then-holds_at c es ps known =
    let p : Document → Bool = λ d. not (valid_at es c.args.entry d) in
    let xs = c.as_slice-id-items.result.now in
    let k = c.loop-id.id-index in
    let id = get_or xs k (record { 0 = 0 }) in
    let within = below-at number_of (length c.args.tables.now) k xs c.args.ids.now id c.as_slice-id-items.ensures
    c.requires c.loop-id-test.true (item-same xs k _ id c.loop-id-test.true) in
    let verdict = ap not
    (sym (known id.0 c.args.entry within)
    ∙ sym c.if-holds_at.ensures) in
    sym (ap (every p) (documents-are ps xs c.args.ids.now c.as_slice-id-items.ensures)
    ∙ sym (c.loop-id.invariant es ps known)
    ∙ every-here (document_at ps) p k xs id c.loop-id-test.true (item-same xs k _ id c.loop-id-test.true)
    ∙ ap (λ b. b && every p (map (document_at ps) (drop (k + 1) xs))) verdict)

pub loop-id-preserved : goal.loop-id-preserved
loop-id-preserved c es ps known =
    let p : Document → Bool = λ d. not (valid_at es c.args.entry d) in
    let xs = c.as_slice-id-items.result.now in
    let k = c.loop-id.id-index in
    let id = get_or xs k (record { 0 = 0 }) in
    let within = below-at number_of (length c.args.tables.now) k xs c.args.ids.now id c.as_slice-id-items.ensures
    c.requires c.loop-id-test.true (item-same xs k _ id c.loop-id-test.true) in
    let verdict = ap not
    (sym (known id.0 c.args.entry within)
    ∙ sym c.if-holds_at.ensures) in
    sym (every-here (document_at ps) p k xs id c.loop-id-test.true (item-same xs k _ id c.loop-id-test.true)
    ∙ ap (λ b. b && every p (map (document_at ps) (drop (k + 1) xs))) verdict)
    ∙ c.loop-id.invariant es ps known

pub returns : goal.returns
returns c es ps known =
    let p : Document → Bool = λ d. not (valid_at es c.args.entry d) in
    sym (ap (every p) (documents-are ps c.as_slice-id-items.result.now c.args.ids.now c.as_slice-id-items.ensures)
    ∙ sym (c.loop-id.invariant es ps known)
    ∙ every-past (document_at ps) p c.loop-id.id-index c.as_slice-id-items.result.now
    (omega (arith, c.loop-id-test.false)))

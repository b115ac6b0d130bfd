-- The first element that isn't as required is found.
use Rattle.std.proofs.Common.{ℕ, suc, Bool, ◌&&◌, map, drop, get_or, length, sym, ap, ◌∙◌, ◌+◌, add-one, arith}
use Rattle.documents.specs.Document.{Document}
use Rattle.documents.specs.Tests.{every}
use Rattle.js_doc.specs.PartMembers.{number_of}
use Rattle.js_schema.specs.View.{form_view}
use Rattle.js_valid.specs.Parts.{of_element}
use Rattle.js_valid.specs.Plan.{valid_at}
use Rattle.js_valid.specs.Requests.{each_at}
use Rattle.js_valid.proofs.SamePartLaws.{below-at, item-same}
use Rattle.js_valid.proofs.PartElementLaws.{document_at, documents-are, each-here, each-past}
use Rattle.js_valid.proofs.part_elements.are_elements_met.Goals as goal

pub is_element_met-requires : goal.is_element_met-requires
is_element_met-requires c =
    below-at number_of (length c.args.tables.now) c.loop-place.place c.as_slice-numbers.result.now c.args.ids.now
    (get_or c.as_slice-numbers.result.now c.loop-place.place (record { 0 = 0 })) c.as_slice-numbers.ensures c.requires
    c.loop-place-test.true (item-same c.as_slice-numbers.result.now c.loop-place.place _ _ c.loop-place-test.true)

pub returns-then-not-is_element_met : goal.returns-then-not-is_element_met
returns-then-not-is_element_met c es ps known =
    let t : ℕ → Document → Bool = λ i d. every (λ q. valid_at es q d) (of_element (form_view c.args.form.now) i) in
    let xs = c.as_slice-numbers.result.now in
    let k = c.loop-place.place in
    let id = get_or xs k (record { 0 = 0 }) in
    let verdict = sym (c.if-not-is_element_met.ensures es ps known
    ∙ ap (every (λ q. valid_at es q (document_at ps id))) c.element_entry.ensures) in
    sym (ap (each_at t 0) (documents-are ps xs c.args.ids.now c.as_slice-numbers.ensures)
    ∙ sym (c.loop-place.invariant es ps known)
    ∙ each-here (document_at ps) t k k xs id c.loop-place-test.true (item-same xs k _ id c.loop-place-test.true)
    ∙ ap (λ b. b && each_at t (suc k) (map (document_at ps) (drop (k + 1) xs))) verdict)

pub loop-place-preserved : goal.loop-place-preserved
loop-place-preserved c es ps known =
    let t : ℕ → Document → Bool = λ i d. every (λ q. valid_at es q d) (of_element (form_view c.args.form.now) i) in
    let xs = c.as_slice-numbers.result.now in
    let k = c.loop-place.place in
    let id = get_or xs k (record { 0 = 0 }) in
    let verdict = sym (c.if-not-is_element_met.ensures es ps known
    ∙ ap (every (λ q. valid_at es q (document_at ps id))) c.element_entry.ensures) in
    ap (λ n. each_at t n (map (document_at ps) (drop (k + 1) xs))) (add-one k)
    ∙ sym (each-here (document_at ps) t k k xs id c.loop-place-test.true (item-same xs k _ id c.loop-place-test.true)
    ∙ ap (λ b. b && each_at t (suc k) (map (document_at ps) (drop (k + 1) xs))) verdict)
    ∙ c.loop-place.invariant es ps known

pub returns : goal.returns
returns c es ps known =
    let t : ℕ → Document → Bool = λ i d. every (λ q. valid_at es q d) (of_element (form_view c.args.form.now) i) in
    let xs = c.as_slice-numbers.result.now in
    sym (ap (each_at t 0) (documents-are ps xs c.args.ids.now c.as_slice-numbers.ensures)
    ∙ sym (c.loop-place.invariant es ps known)
    ∙ each-past (document_at ps) t c.loop-place.place c.loop-place.place xs (omega (arith, c.loop-place-test.false)))

use Rattle.std.proofs.Common.{◌≡◌, ◌<◌, ◌≤◌, ◌||◌, length, get_or, refl, sym, ap, subst, ◌∙◌, arith}
use Rattle.std.proofs.lemmas.List.{get_or_read}
use Rattle.schemas.specs.Schema.{in_place}
use Rattle.draft06.specs.EntryValidity.{form_at}
use Rattle.js_doc.specs.View.{view}
use Rattle.js_match.specs.Matching.{matches}
use Rattle.js_match.specs.Places.{is_at}
use Rattle.js_valid.specs.AskedEntries.{Takes, placed}
use Rattle.js_valid.specs.Standing.{stands}
use Rattle.js_valid.proofs.AskedLaws.{Ahead, ahead-first, ahead-past, ahead-more, ahead-done, top, top-falls, top-popped}
use Rattle.js_valid.specs.Plan.{table_of}
use Rattle.js_valid.proofs.validator.Validator.asked_entries.Goals as goal

pub asked-init : goal.asked-init
asked-init c =
    ahead-first (table_of c.args.self.now) c.args.self.now.plan.now c.requires (view c.args.doc.now) c.args.entries.now
    c.add_all.new.pending _ c.new.ensures.items c.new-2.ensures.items (λ k.
    c.in_ok-add_all.ensures refl k
    ∙ ap (λ ps. is_at k ps || is_at k (placed c.args.self.now.plan.now.places.items c.args.entries.now))
    c.new-pending.ensures)

pub asked-preserved-in-Continue-branch-2 : goal.asked-preserved-in-Continue-branch-2
asked-preserved-in-Continue-branch-2 c =
    let es = table_of c.args.self.now in
    let J = view c.args.doc.now in
    let order = c.args.self.now.plan.now.order.items in
    let less : c.in-Some.place < length order = omega (arith, c.len.ensures, c.if-place-len.true) in
    let read : c.index-entry.result.now ≡ get_or order c.in-Some.place 0 =
    get_or_read order c.in-Some.place _ less c.index-entry.ensures 0 in
    let takes = subst (λ e. Takes (stands matches (form_at es e) J) e
    (placed c.args.self.now.plan.now.places.items (in_place (form_at es e))) c.pop.new.self c.take.new.pending
    c.asked.asked c.take.new.asked) read (c.in_ok-take.ensures refl) in
    ahead-more es c.args.self.now.plan.now c.requires J _ c.args.entries.now c.pop.new.self c.take.new.pending
    c.in-Some.place c.asked.asked c.take.new.asked less refl takes
    (subst (λ ps. Ahead es J c.args.self.now.plan.now c.args.entries.now ps c.asked.asked) c.in-Some.ensures.0
    c.asked.invariant)

pub asked-smaller-in-Continue-branch-2 : goal.asked-smaller-in-Continue-branch-2
asked-smaller-in-Continue-branch-2 c =
    let es = table_of c.args.self.now in
    let J = view c.args.doc.now in
    let order = c.args.self.now.plan.now.order.items in
    let less : c.in-Some.place < length order = omega (arith, c.len.ensures, c.if-place-len.true) in
    let read : c.index-entry.result.now ≡ get_or order c.in-Some.place 0 =
    get_or_read order c.in-Some.place _ less c.index-entry.ensures 0 in
    let takes = subst (λ e. Takes (stands matches (form_at es e) J) e
    (placed c.args.self.now.plan.now.places.items (in_place (form_at es e))) c.pop.new.self c.take.new.pending
    c.asked.asked c.take.new.asked) read (c.in_ok-take.ensures refl) in
    subst (λ ps. top c.take.new.pending < top ps) (sym c.in-Some.ensures.0)
    (top-falls es c.args.self.now.plan.now c.requires J _ c.pop.new.self c.take.new.pending c.in-Some.place
    c.asked.asked c.take.new.asked less c.in-Some.ensures.1 takes)

pub asked-preserved : goal.asked-preserved
asked-preserved c =
    let es = table_of c.args.self.now in
    let J = view c.args.doc.now in
    let order = c.args.self.now.plan.now.order.items in
    let far : length order ≤ c.in-Some.place = omega (arith, c.len.ensures, c.if-place-len.false) in
    ahead-past es c.args.self.now.plan.now c.requires J c.args.entries.now c.pop.new.self c.in-Some.place
    c.asked.asked far
    (subst (λ ps. Ahead es J c.args.self.now.plan.now c.args.entries.now ps c.asked.asked) c.in-Some.ensures.0
    c.asked.invariant)

pub asked-smaller : goal.asked-smaller
asked-smaller c =
    subst (λ ps. top c.pop.new.self < top ps) (sym c.in-Some.ensures.0)
    (top-popped c.in-Some.place c.pop.new.self c.in-Some.ensures.1)

pub returns-clause-asked : goal.returns-clause-asked
returns-clause-asked c =
    let es = table_of c.args.self.now in
    let J = view c.args.doc.now in
    ahead-done es c.args.self.now.plan.now c.requires J c.args.entries.now c.asked.asked
    (subst (λ ps. Ahead es J c.args.self.now.plan.now c.args.entries.now ps c.asked.asked) c.in_default.ensures
    c.asked.invariant)

use Rattle.std.proofs.Common.{[], ◌∷◌, ◌++◌, sym, subst}
use Rattle.js_pointers.specs.PointersView.{pointers_of}
use Rattle.js_pointers.proofs.PointersLaws.{pointers_of-distinct}
use Rattle.js_walk.specs.FileView.{root_of}
use Rattle.js_walk.specs.PlacesView.{place_view}
use Rattle.js_walk.specs.Walking.{done_places, stack_view, Kept, Passed}
use Rattle.js_walk.proofs.KeepingLemmas.{entry_of, kept-more, passed-more, not_done}
use Rattle.js_walk.proofs.steps.Walked.pass.Goals as goal

pub push-requires : goal.push-requires
push-requires c =
    let kept = c.requires.kept in
    not_done (pointers_of c.args.self.now.pointers) (pointers_of-distinct c.args.self.now.pointers) c.args.place.pointer
    c.args.self.now.done kept.done c.requires.within c.requires.first

pub returns-clause-ok : goal.returns-clause-ok
returns-clause-ok c =
    let root = root_of c.args.file.now in
    let ps = pointers_of c.args.self.now.pointers in
    let qs = pointers_of c.visit.new.pointers in
    let es = c.args.self.now.done in
    let cs = c.args.waiting.now.items in
    let place = place_view ps c.args.place in
    let kept = c.requires.kept in
    let weight = c.in_ok-weight.ensures.ok in
    let last = c.in_ok-push.ensures in
    subst (λ ds. Passed root c.args.self.now.weight c.in_ok-weight.weight place (done_places ps es) (done_places qs ds)
    (stack_view ps cs) (stack_view qs c.stack_up.new.waiting.items)) (sym last)
    (subst (λ ws. Passed root c.args.self.now.weight c.in_ok-weight.weight place (done_places ps es)
    (done_places qs (es ++ entry_of c.args.place c.in_ok-found.found ∷ [])) (stack_view ps cs) (stack_view qs ws))
    (sym c.in_ok-stack_up.ensures)
    (passed-more root ps qs es cs c.args.place kept c.requires.within c.in_ok-found.found c.in_ok-found.ensures
    c.args.self.now.weight c.in_ok-weight.weight weight.0 weight.1))

pub returns-clause-kept : goal.returns-clause-kept
returns-clause-kept c =
    let root = root_of c.args.file.now in
    let ps = pointers_of c.args.self.now.pointers in
    let qs = pointers_of c.visit.new.pointers in
    let es = c.args.self.now.done in
    let kept = c.requires.kept in
    let last = c.in_ok-push.ensures in
    subst (λ ds. Kept root qs ds c.stack_up.new.waiting.items) (sym last)
    (subst (λ ws. Kept root qs (es ++ entry_of c.args.place c.in_ok-found.found ∷ []) ws)
    (sym c.in_ok-stack_up.ensures)
    (kept-more root ps qs es c.args.waiting.now.items c.args.place kept c.requires.within c.in_ok-found.found
    c.in_ok-found.ensures))

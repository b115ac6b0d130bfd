use Rattle.std.proofs.Common.{◌||◌, ap, sym, false, get_or, ◌∙◌, take_all}
use Rattle.js_numbers.specs.declared.candidates.TheConstants.{MOST_STRUCK}
use Rattle.js_doc.specs.Numbers.{has}
use Rattle.std.specs.List.{list_any}
use Rattle.js_numbers.proofs.ListedLaws.{AddsListed-none, AddsListed-more}
use Rattle.js_numbers.proofs.ListsBorrowed.{list_any-lists_of}
use Rattle.js_numbers.proofs.listed.mark_sets.Goals as goal

pub loop-set-init : goal.loop-set-init
loop-set-init c = AddsListed-none MOST_STRUCK c.args.start c.args.values.now c.args.listed.now

pub loop-set-preserved : goal.loop-set-preserved
loop-set-preserved c =
    AddsListed-more MOST_STRUCK c.args.start c.args.values.now (λ s y. has s.now y) c.args.sets.now c.loop-set.set-index
    c.set-item.result c.set-item.result c.args.listed.now c.loop-set.listed c.mark_set.new.listed
    c.loop-set-test.true c.set-item.is c.loop-set.invariant c.mark_set.ensures

pub returns : goal.returns
returns c = λ y k e.
    c.loop-set.invariant y k e
    ∙ ap (λ ss. get_or c.args.listed.now k false || list_any (λ s. has s.now y) ss)
    (take_all c.loop-set.set-index c.args.sets.now c.loop-set-test.false)
    ∙ ap (λ b. get_or c.args.listed.now k false || b) (sym (list_any-lists_of (λ s. has s y) c.args.sets.now))

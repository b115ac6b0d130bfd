-- One entry more is done.
use Rattle.std.proofs.Common.{◌≡◌, ◌+◌, ◌<◌, length, set, nat_lt, refl, ap, ap₂, ◌∙◌, arith}
use Rattle.std.proofs.lemmas.List.{get_or_read}
use Rattle.js_guard.specs.declared.search.Mark.TheVariants.{Done}
use Rattle.js_guard.specs.Searching.{at}
use Rattle.js_guard.specs.Steps.{least_with}
use Rattle.js_guard.proofs.Closing.{closed-more, closed-same}
use Rattle.js_guard.proofs.search.Search.close.Goals as goal

pub loop-i-preserved : goal.loop-i-preserved
loop-i-preserved c =
    let old = c.args.self.now in
    let now = c.loop-i.self in
    let kept = c.loop-i.invariant in
    let f = c.finish.ensures in
    let several = nat_lt (c.args.place + 1) (length old.opened.items) in
    let x = at old.opened.items c.loop-i.i in
    let size : c.len.result ≡ length old.opened.items = omega arith in
    let before : c.loop-i.i < length old.opened.items = omega arith in
    let within : c.loop-i.i < length now.opened.items = omega (arith, ap (λ o. length o.items) kept.opened) in
    let read = get_or_read now.opened.items c.loop-i.i c.index-entry.result.now within c.index-entry.ensures 0 in
    let entry : c.index-entry.result.now ≡ x = read ∙ ap (λ o. at o.items c.loop-i.i) kept.opened in
    let marked = kept.closes.marked in
    let inside : x < length now.marks.items = omega (arith, c.requires.within c.loop-i.i before) in
    let more = closed-more old.marks.items old.opened.items old.done old.least now.marks.items now.done now.least
    c.args.place c.loop-i.i several kept.closes kept.after inside refl in
    record {
      opened = f.opened ∙ kept.opened;
      groups = f.groups ∙ kept.groups;
      path = f.path ∙ kept.path;
      after = omega arith;
      closes = closed-same old.marks.items old.opened.items old.done old.least (set now.marks.items x (Done now.done))
          c.finish.new.self.marks.items (now.done + 1) c.finish.new.self.done (least_with several now.least x)
          c.finish.new.self.least c.args.place (c.loop-i.i + 1) more
          (f.marks ∙ ap (λ e. set now.marks.items e (Done now.done)) entry) f.done
          (f.least
          ∙ ap₂ (λ n e. least_with (nat_lt (c.args.place + 1) n) now.least e) size entry);
    }

use Rattle.std.proofs.Common.{rules, ◌∙◌, ap}
use Rattle.js_pattern.specs.View.{view}
use Rattle.js_match.specs.Places.{has_place}
use Rattle.js_match.proofs.FoundLaws.{found-in, found-at-start}
use Rattle.js_match.proofs.found.is_in.Goals as goal

pub returns-then-is_anchored : goal.returns-then-is_anchored
returns-then-is_anchored c =
    c.is_some.ensures ∙ ap has_place c.deref.ensures.value
    ∙ found-at-start (view c.args.re.now) c.args.word.now c.in_ok-ends.ends.items (search rules) (search rules)

pub returns : goal.returns
returns c =
    c.is_some-2.ensures ∙ ap has_place c.deref-3.ensures.value
    ∙ found-in (view c.args.re.now) c.args.word.now c.in_ok-starts.starts.items c.in_ok-ends-2.ends.items
    c.in_ok-starts.ensures.all (search rules)

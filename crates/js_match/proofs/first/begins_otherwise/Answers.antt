use Rattle.std.proofs.Common.{rules, ◌≡◌, Some, false, sym, ap, ◌∙◌, true≢false}
use Rattle.std.proofs.lemmas.Grind.{get_or_default_zero}
use Rattle.patterns.specs.CharSet.{has}
use Rattle.js_pattern.specs.View.{view}
use Rattle.js_match.specs.First.{needed_set}
use Rattle.js_match.proofs.FirstLaws.{not-found}
use Rattle.js_match.proofs.first.begins_otherwise.Goals as goal

pub returns-else-is_empty : goal.returns-else-is_empty
returns-else-is_empty c h =
    let needed : needed_set (view c.args.re.now) ≡ Some c.in-Some.set.now = search rules in
    let refused : has c.in-Some.set.now c.index-word-0.result ≡ false = search rules in
    not-found c.args.word.now c.in-Some.set.now (view c.args.re.now) needed
    (λ b. true≢false (sym b.1 ∙ ap (has c.in-Some.set.now) (sym (c.index-word-0.is
    ∙ get_or_default_zero c.args.word.now 0 c.index-word-0.result b.0)) ∙ refused))

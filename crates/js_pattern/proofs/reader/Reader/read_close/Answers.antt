use Rattle.std.proofs.Common.{◌≡◌, ◌∙◌, ◌+◌, ◌∷◌, drop, Ok, ap, sym, refl}
use Rattle.js_pattern.specs.View.{view}
use Rattle.js_pattern.specs.Quantifiers.{quantified}
use Rattle.js_pattern.specs.Grammar.{empty_body}
use Rattle.js_pattern.specs.Progress.{part, parts, with_term, finished, go_on, outcome}
use Rattle.js_pattern.proofs.Steps.{after_close, parts_push}
use Rattle.js_pattern.proofs.reader.Reader.read_close.Goals as goal

pub returns-clause-steps : goal.returns-clause-steps
returns-clause-steps c =
    let at = c.args.at in
    let rest = c.args.rest.now in
    let p = part c.args.self.now.level in
    let outer = part c.in-Some.outer in
    let outers = parts c.pop.new.self.items in
    let n = c.in_ok-tree.taken in
    let tree = view c.in_ok-tree.tree in
    let stack : parts c.args.self.now.outers.items ≡ outer ∷ outers =
    ap parts c.in-Some.ensures.items ∙ parts_push c.pop.new.self.items c.in-Some.outer in
    let group : quantified (finished p empty_body) (at + 1) rest ≡ Ok (tree, n) =
    ap (λ t. quantified t (at + 1) rest)
    (sym (c.in_ok-finish.ensures.tree ∙ ap (λ l. finished (part l) empty_body) c.replace-level.ensures.value))
    ∙ c.in_ok-tree.ensures.value in
    let pushed : part c.push.new.self ≡ with_term outer tree =
    c.in_ok-push.ensures.part ∙ ap (λ l. with_term (part l) tree) c.replace-level.ensures.after in
    ap (λ o. outcome o p at (41 ∷ rest)) stack
    ∙ after_close outers p at 41 rest outer refl
    ∙ ap (go_on (λ t. outcome outers (with_term outer t)) (at + 1) rest) group
    ∙ ap (λ q. outcome outers q (at + 1 + n) (drop n rest)) (sym pushed)

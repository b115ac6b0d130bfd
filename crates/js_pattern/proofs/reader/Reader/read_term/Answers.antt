use Rattle.std.proofs.Common.{◌∙◌, ◌+◌, drop, ap, sym, rules}
use Rattle.js_pattern.specs.View.{view}
use Rattle.js_pattern.specs.Progress.{part, parts, outcome}
use Rattle.js_pattern.proofs.Steps.{after_term, term_fault}
use Rattle.js_pattern.proofs.reader.Reader.read_term.Goals as goal

pub returns-in_err-term-clause-steps : goal.returns-in_err-term-clause-steps
returns-in_err-term-clause-steps c =
    let h =
    term_fault (parts c.args.self.now.outers.items)
    (part c.args.self.now.level) c.args.at c.args.first c.args.rest.now
    c.in_err-term.field-0.0 c.requires.sign c.in_err-term.ensures.fault in
    search (rules, h)

pub returns-clause-steps : goal.returns-clause-steps
returns-clause-steps c =
    let outers = parts c.args.self.now.outers.items in
    let n = c.in_ok-term.taken in
    after_term outers (part c.args.self.now.level) c.args.at c.args.first c.args.rest.now
    (view c.in_ok-term.term) n
    c.requires.sign c.in_ok-term.ensures.value
    ∙ ap (λ q. outcome outers q (c.args.at + 1 + n) (drop n c.args.rest.now)) (sym c.in_ok-push.ensures.part)

use Rattle.std.proofs.Common.{◌≡◌, ◌∙◌, ◌+◌, ◌<◌, ◌≤◌, length, [], drop, Ok, ap, sym, refl, rules, arith}
use Rattle.js_pattern.specs.declared.fault.PatternFault.TheVariants.{Unsupported}
use Rattle.js_pattern.specs.declared.fault.PatternForm.TheVariants.{Nesting}
use Rattle.js_pattern.specs.Grammar.{nested, opening, most_nested}
use Rattle.js_pattern.specs.Progress.{make_part, part, parts, outcome}
use Rattle.js_pattern.proofs.Steps.{after_opening, opening_fault, nested_within, nested_beyond, parts_length}
use Rattle.js_pattern.proofs.reader.Reader.read_open.Goals as goal

pub returns-in_err-taken-clause-steps : goal.returns-in_err-taken-clause-steps
returns-in_err-taken-clause-steps c =
    let outers = parts c.args.self.now.outers.items in
    let h =
    opening_fault outers (part c.args.self.now.level) c.args.at 40 c.args.rest.now
    c.in_err-taken.field-0.0 refl (ap (nested (length outers) c.args.at) (sym c.in_err-taken.ensures.value)) in
    search (rules, h)

pub returns-then-len-ge-MOST_NESTED-clause-steps : goal.returns-then-len-ge-MOST_NESTED-clause-steps
returns-then-len-ge-MOST_NESTED-clause-steps c =
    let levels = c.args.self.now.outers in
    let at = c.args.at in
    let rest = c.args.rest.now in
    let many : most_nested ≤ length (parts levels.items) =
    omega (arith, c.if-len-ge-MOST_NESTED.true, c.len.ensures, levels.ok.0, parts_length levels.items) in
    opening_fault (parts levels.items) (part c.args.self.now.level) at 40 rest (Unsupported at Nesting) refl
    (nested_beyond (length (parts levels.items)) at c.in_ok-taken.taken (opening at rest)
    (sym c.in_ok-taken.ensures.value) many)

pub returns-clause-steps : goal.returns-clause-steps
returns-clause-steps c =
    let levels = c.args.self.now.outers in
    let outers = parts levels.items in
    let p = part c.args.self.now.level in
    let n = c.in_ok-taken.taken in
    let rest = c.args.rest.now in
    let few : length outers < most_nested =
    omega (arith, c.if-len-ge-MOST_NESTED.false, c.len.ensures, levels.ok.0, parts_length levels.items) in
    let opened : nested (length outers) c.args.at (opening c.args.at rest) ≡ Ok n =
    nested_within (length outers) c.args.at n (opening c.args.at rest) (sym c.in_ok-taken.ensures.value) few in
    after_opening outers p c.args.at 40 rest n refl opened
    ∙ ap (λ o. outcome o (make_part [] []) (c.args.at + 1 + n) (drop n rest)) (sym c.in_ok-open.ensures.outers)
    ∙ ap (λ q. outcome (parts c.open.new.self.outers.items) q (c.args.at + 1 + n) (drop n rest))
    (sym c.in_ok-open.ensures.level)

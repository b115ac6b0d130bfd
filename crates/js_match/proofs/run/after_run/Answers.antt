use Rattle.std.proofs.Common.{rules, ◌≡◌, ℕ, ◌+◌, ◌-◌, ◌∙◌, false, length, get_or, replicate, ap}
use Rattle.js_match.specs.Places.{is_at, marked}
use Rattle.js_match.specs.Runs.{latest, is_end, lone, is_lone_end}
use Rattle.js_match.proofs.RunLaws.{run-leads, run-within, latest-by, lone-by, only-one}
use Rattle.js_match.proofs.WalkLaws as W
use Rattle.js_match.proofs.run.after_run.Goals as goal

pub returns-then-starts-eq1-clause-leads : goal.returns-then-starts-eq1-clause-leads
returns-then-starts-eq1-clause-leads c =
    let start = get_or c.args.starts.now 0 0 in
    W.ok_then c.run_from.result _ _
    (λ ends e. run-leads c.args.set.now c.args.word.now c.args.low c.args.high c.args.starts.now ends.items
    (lone start c.args.low) c.requires.places
    (lone-by c.args.set.now c.args.word.now start c.args.low c.args.starts.now
    (only-one c.args.starts.now (search rules))) e)
    c.run_from.ensures

pub returns-then-starts-eq1-clause-within : goal.returns-then-starts-eq1-clause-within
returns-then-starts-eq1-clause-within c =
    W.ok_then c.run_from.result _ _
    (λ ends e. run-within c.args.set.now c.args.word.now ends.items
    (is_lone_end c.args.set.now c.args.word.now (get_or c.args.starts.now 0 0) c.args.low c.args.high) e)
    c.run_from.ensures

pub returns-clause-leads : goal.returns-clause-leads
returns-clause-leads c =
    let none : c.in_ok-marks.marks.items ≡ replicate (length c.args.word.now + 1) false = search rules in
    let made = W.marks_first _ _ c.args.starts.now c.mark_all.new.marks.items none (search rules) in
    let same : (j : ℕ) → marked c.deref.result.now j ≡ is_at j c.args.starts.now = (λ j.
    ap (λ bs. marked bs j) c.deref.ensures.value ∙ made j) in
    W.ok_then c.run_ends.result _ _
    (λ ends e. run-leads c.args.set.now c.args.word.now c.args.low c.args.high c.args.starts.now ends.items
    (λ j. latest c.deref.result.now (j + 1 - c.args.low)) c.requires.places
    (latest-by c.args.set.now c.args.word.now c.deref.result.now c.args.low c.args.starts.now same) e)
    c.run_ends.ensures

pub returns-clause-within : goal.returns-clause-within
returns-clause-within c =
    W.ok_then c.run_ends.result _ _
    (λ ends e. run-within c.args.set.now c.args.word.now ends.items
    (is_end c.args.set.now c.args.word.now c.deref.result.now c.args.low c.args.high) e) c.run_ends.ensures

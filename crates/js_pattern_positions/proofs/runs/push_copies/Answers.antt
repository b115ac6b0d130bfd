use Rattle.std.proofs.Common.{◌≡◌, ◌+◌, ◌-◌, ◌∙◌, ◌++◌, if◌then◌else◌, nat_eq, length, sym, ap, arith, length-append, eq-eqb, ne_eqb}
use Rattle.state_laws.specs.Flow.{flag_at}
use Rattle.js_pattern_positions.specs.Walk.{copies_begun}
use Rattle.js_pattern_positions.proofs.CopiesLemmas.{moved, length-moved, copies-last}
use Rattle.js_pattern_positions.proofs.runs.push_copies.Goals.{then-count-eq1, else-count-eq1}
use Rattle.js_pattern_positions.proofs.runs.push_copies.Goals as goal

pub push-requires : goal.push-requires
push-requires c =
    let read = flag_at c.args.read.now.flags in
    let flags = c.args.reads.now.flags in
    let longer : length c.push_run-2.new.reads.flags ≡ length flags + (c.args.count - 1) =
    ap length c.push_run-2.ensures.flags ∙ length-append flags
    (moved read (c.args.count - 1) (length flags) c.args.begins)
    ∙ ap (λ k. length flags + k) (length-moved read (c.args.count - 1) (length flags) c.args.begins) in
    omega (arith, longer, c.push_run-2.ensures.room, c.requires.room, c.requires.some c.if-not-again.false)

pub returns-clause-flags : goal.returns-clause-flags
returns-clause-flags c =
    let read = flag_at c.args.read.now.flags in
    let flags = c.args.reads.now.flags in
    let last = c.len.result + (c.args.count - 1) in
    let here : c.if-count-eq1.here ≡ (if nat_eq c.args.count 1 then c.args.begins else read (last - 1)) =
    elim c.if-count-eq1.branch [
      | then-count-eq1 w ↦ w.here-is ∙ sym (ap (λ x. if x then c.args.begins else read (last - 1))
          (eq-eqb c.args.count 1 w.if-count-eq1.true))
      | else-count-eq1 w ↦ w.here-is ∙ w.contains-here.ensures
          ∙ sym (ap (λ x. if x then c.args.begins else read (last - 1)) (ne_eqb c.args.count 1 w.if-count-eq1.false))
    ] in
    copies-last read c.args.count last c.args.begins c.if-count-eq1.here c.contains.result flags
    c.push_run-2.new.reads.flags c.push.new.self.flags (c.requires.some c.if-not-again.false)
    (ap (λ k. k + (c.args.count - 1)) c.len.ensures) here c.contains.ensures c.push_run-2.ensures.flags
    c.push.ensures.flags
    ∙ ap (λ b. flags ++ copies_begun b read c.args.count (length flags) c.args.begins) (sym c.if-not-again.false)

-- One more goal is gone through, and where none is left the entries are whole.
use Rattle.std.proofs.Common.{◌≡◌, ◌<◌, ◌≤◌, [], length, get_or, ap, arith, sym, ◌∙◌, subst}
use Rattle.std.specs.String.{string_bytes}
use Rattle.std.proofs.lemmas.Option.{get_or_from_slice_get, slice_get_within}
use Rattle.list_laws.proofs.Lists.{every_at, slice_get-in}
use Rattle.js_algebra.specs.View.{are_in_table}
use Rattle.js_refute.specs.Unmet.{goals_of, lines_of}
use Rattle.js_refute.proofs.Growing.{IsWhole, number_below, goes_on, ends_early, ends_full}
use Rattle.js_refute.proofs.Numbers.{small, none_left}
use Rattle.js_refute.proofs.entries.entries.Goals as goal

pub goal-goal-requires : goal.goal-goal-requires
goal-goal-requires c =
    let u = c.args.unmet.now in
    let T = c.args.core.now.positions in
    let now = c.loop-place.listed.keys in
    let i = c.loop-place.place in
    let some : 0 < length (goals_of u) = omega (arith, c.if-len-eq0.false, c.len.ensures) in
    let within : i ≤ length (goals_of u) = omega (arith, c.loop-place-test.true, c.len-place-end.ensures) in
    let at = sym c.in-Some.ensures.key in
    let inside = slice_get_within now i c.in-Some.number.now at in
    subst (λ k. k < length (goals_of u))
    (get_or_from_slice_get now i c.in-Some.number.now 0 at)
    (number_below (goals_of u) (lines_of T u) some (small T u) i now c.loop-place.invariant.listed within inside)

pub append_entry-requires : goal.append_entry-requires
append_entry-requires c =
    let u = c.args.unmet.now in
    every_at (are_in_table c.args.core.now.positions) c.goal-goal.result.now (goals_of u) c.requires
    (slice_get-in c.goal-goal.result.now (goals_of u) c.in-Some.number.now c.goal-goal.ensures)

pub loop-place-preserved : goal.loop-place-preserved
loop-place-preserved c =
    let u = c.args.unmet.now in
    let T = c.args.core.now.positions in
    let now = c.loop-place.listed.keys in
    let i = c.loop-place.place in
    let g = c.goal-goal.result.now in
    let some : 0 < length (goals_of u) = omega (arith, c.if-len-eq0.false, c.len.ensures) in
    let within : i < length (goals_of u) = omega (arith, c.loop-place-test.true, c.len-place-end.ensures) in
    let at = sym c.in-Some.ensures.key in
    let inside = slice_get_within now i c.in-Some.number.now at in
    goes_on (goals_of u) (lines_of T u) some (small T u) i now c.append_entry.new.listed.keys
    (string_bytes c.loop-place.text) (string_bytes c.append_entry.new.text) g c.loop-place.invariant within inside
    (ap (λ k. get_or (goals_of u) k [])
    (get_or_from_slice_get now i c.in-Some.number.now 0 at)
    ∙ get_or_from_slice_get (goals_of u) c.in-Some.number.now g [] c.goal-goal.ensures)
    c.in_ok-append_entry.ensures.listed c.in_ok-append_entry.ensures.text

pub returns-in_default : goal.returns-in_default
returns-in_default c =
    let u = c.args.unmet.now in
    let T = c.args.core.now.positions in
    let now = c.loop-place.listed.keys in
    let i = c.loop-place.place in
    let some : 0 < length (goals_of u) = omega (arith, c.if-len-eq0.false, c.len.ensures) in
    let within : i ≤ length (goals_of u) = omega (arith, c.loop-place-test.true, c.len-place-end.ensures) in
    let gone = none_left c.get_index.result now i c.in_default.is c.get_index.ensures.key in
    let w : IsWhole (goals_of u) (lines_of T u) some (small T u) now (string_bytes c.loop-place.text) =
    ends_early (goals_of u) (lines_of T u) some (small T u) i now (string_bytes c.loop-place.text)
    c.loop-place.invariant within gone in
    record { listed = w.listed; text = w.text; few = omega (arith, gone); numbers = w.below }

pub returns : goal.returns
returns c =
    let u = c.args.unmet.now in
    let T = c.args.core.now.positions in
    let now = c.loop-place.listed.keys in
    let i = c.loop-place.place in
    let some : 0 < length (goals_of u) = omega (arith, c.if-len-eq0.false, c.len.ensures) in
    let all : i ≡ length (goals_of u) =
    omega (arith, c.loop-place-test.false, c.loop-place.auto.place-end, c.len-place-end.ensures) in
    let w : IsWhole (goals_of u) (lines_of T u) some (small T u) now (string_bytes c.loop-place.text) =
    ends_full (goals_of u) (lines_of T u) some (small T u) i now (string_bytes c.loop-place.text)
    c.loop-place.invariant all in
    let few = w.few in
    record { listed = w.listed; text = w.text; few = omega (arith, few, all); numbers = w.below }

use Rattle.std.proofs.Common.{◌≡◌, ◌≤◌, ◌+◌, eqb, true, if◌then◌else◌, [], length, ◌∙◌, sym, ap, arith}
use Rattle.std.specs.Int.{bit_at}
use Rattle.std.proofs.lemmas.Bool.{ne_eqb}
use Rattle.std.proofs.lemmas.Nat.Bits.{shr_and_one}
use Rattle.js_pattern_positions.specs.Marks.{Marks}
use Rattle.js_nfa.specs.FollowSets.{set_at}
use Rattle.js_nfa.proofs.FollowSetsSteps.{set_at-read}
use Rattle.js_nfa.proofs.FoursSteps.{or_each-within, chosen_sets-more, chosen_sets-still, picked-past}
use Rattle.js_nfa.proofs.fours.union.Goals as goal
use Rattle.js_nfa.proofs.fours.union.Goals.{then-bits-place-eq1+then-position-sets, else-bits-place-eq1, else-bits-place-eq1-via-then-bits-place-eq1+else-position-sets, else-bits-place-eq1-via-else-bits-place-eq1}

pub loop-place-preserved : goal.loop-place-preserved
loop-place-preserved c =
    let sets = c.args.sets.now in
    let place = c.loop-place.place in
    let before = c.loop-place.invariant in
    elim c.if-bits-place-eq1.branch [
      | then-bits-place-eq1+then-position-sets w ↦
          let x = w.index-sets-position.result in
          let one = set_at-read sets (c.args.first + place) x w.if-position-sets.true w.index-sets-position.is in
          let bit : eqb (bit_at c.args.bits place) 1 ≡ true =
          ap (λ b. eqb b 1) (sym (shr_and_one c.args.bits place) ∙ w.if-bits-place-eq1.true) in
          let long : length (Marks.flags x) ≤ c.args.count =
          omega (arith, ap length one, c.requires.long (c.args.first + place) w.if-position-sets.true) in
          record {
            room = omega (arith, before.room, w.join.ensures.room, ap Marks.room w.union-is);
            flags = ap Marks.flags w.union-is
                ∙ chosen_sets-more sets c.args.first c.args.bits place x c.loop-place.union.flags w.join.new.self.flags
                before.flags bit one w.join.ensures.flags;
            within = omega (
              arith,
              or_each-within c.loop-place.union.flags (Marks.flags x) c.args.count before.within long,
              ap length w.join.ensures.flags,
              ap (λ (s : Marks). length s.flags) w.union-is,
            );
          }
      | else-bits-place-eq1 w ↦
          let none : (if eqb (bit_at c.args.bits place) 1 then set_at sets (c.args.first + place) else []) ≡ [] =
          elim w.else-bits-place-eq1.branch [
            | else-bits-place-eq1-via-then-bits-place-eq1+else-position-sets v ↦
                picked-past (eqb (bit_at c.args.bits place) 1) sets (c.args.first + place) v.if-position-sets.false
            | else-bits-place-eq1-via-else-bits-place-eq1 v ↦
                ap (λ b. if b then set_at sets (c.args.first + place) else [])
                (ne_eqb (bit_at c.args.bits place) 1
                (λ e. v.if-bits-place-eq1.false (shr_and_one c.args.bits place ∙ e)))
          ] in
          record {
            room = omega (arith, before.room, ap Marks.room w.union-is);
            flags = ap Marks.flags w.union-is
                ∙ chosen_sets-still sets c.args.first c.args.bits place c.loop-place.union.flags before.flags none;
            within = omega (arith, before.within, ap (λ (s : Marks). length s.flags) w.union-is);
          }
    ]

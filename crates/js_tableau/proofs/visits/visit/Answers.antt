-- A visit by its step.
use Rattle.std.proofs.Common.{◌≡◌, ◌++◌, map, length, reverse, true, arith, ap, ap₂, sym, ◌∙◌, subst, refl}
use Rattle.goals.specs.Tree.{next}
use Rattle.js_algebra.specs.View.{signed_view, kind_view, are_in_table}
use Rattle.js_algebra.specs.SignedSets.{set_of}
use Rattle.js_tableau.specs.Walks.{step_view, Follows}
use Rattle.js_tableau.specs.Progress.{AreFine, Visits, entries, choice_count}
use Rattle.js_tableau.proofs.Settling.{member_in_table}
use Rattle.js_tableau.proofs.Remaining.{matches, counted, visits, over, left-rule, left-end, fine-entries, fine-same, fewer-entries, extends-take}
use Rattle.js_tableau.proofs.visits.visit.Goals as goal
use Rattle.js_tableau.proofs.visits.visit.Goals.{then-more-via-then-more, then-more-via-else-more+then-told-len-gt-MOST_ENDS}

pub returns-then-more-clause-limit : goal.returns-then-more-clause-limit
returns-then-more-clause-limit c = λ same.
    over c.args.core.now.positions (kind_view c.args.kind) c.args.core.now.ranks c.requires.table
    c.args.walk.now.trail c.args.walk.now.settled.items
    c.in_ok-step.step c.args.pending.now.items c.args.told.now c.with_end.result c.requires.stands.in_table
    (matches c.args.core.now.positions (kind_view c.args.kind) c.args.walk.now.trail
    (map signed_view c.next_step.new.self.settled.items)
    c.in_ok-step.step c.in_ok-step.ensures.step c.in_ok-step.ensures.follows)
    c.requires.stands.fine c.with_end.ensures
    (elim c.then-more.branch [
      | then-more-via-then-more w ↦ omega
          (arith, w.if-more.true, c.choice_count-more.ensures)
      | then-more-via-else-more+then-told-len-gt-MOST_ENDS w ↦
          omega (arith, w.if-told-len-gt-MOST_ENDS.true, w.len.ensures, c.choice_count-more.ensures)
    ])

pub returns-in_ok-add_choices-clause-stands : goal.returns-in_ok-add_choices-clause-stands
returns-in_ok-add_choices-clause-stands c =
    let tr = c.in_ok-step.ensures.trail in
    let f = subst (λ s. Follows c.args.core.now.positions (kind_view c.args.kind) c.args.walk.now.trail
    (map signed_view c.next_step.new.self.settled.items) s) c.in-Rule.is c.in_ok-step.ensures.follows in
    let k1 : c.len-in-Rule.result ≡ length c.args.walk.now.trail = c.len-in-Rule.ensures
    ∙ ap (λ u. length u) tr in
    let k2 : c.len-in-Rule-2.result ≡ length c.next_step.new.self.settled.items =
    omega (arith, c.len-in-Rule-2.ensures) in
    let eq = c.in_ok-add_choices.ensures ∙ ap₂ (λ m k. entries m k c.in-Rule.rule 0 c.in-Rule.count
    ++ reverse c.args.pending.now.items) k1 k2 in
    record {
      in_table = subst (λ u. are_in_table c.args.core.now.positions u ≡ true)
          (sym tr) c.requires.stands.in_table;
      covered = c.in_ok-step.ensures.covered;
      fine =
          subst (λ u. AreFine c.args.core.now.positions
          (kind_view c.args.kind) u c.next_step.new.self.settled.items
          (reverse c.add_choices.new.pending.items)) (sym tr)
          (subst (λ fs. AreFine c.args.core.now.positions
          (kind_view c.args.kind) c.args.walk.now.trail c.next_step.new.self.settled.items fs) (sym eq)
          (fine-entries c.args.core.now.positions (kind_view c.args.kind) c.args.walk.now.trail
          c.next_step.new.self.settled.items c.in-Rule.rule
          (reverse c.args.pending.now.items) 0 c.in-Rule.count (omega (arith, f.1))
          (member_in_table _ c.args.walk.now.trail (signed_view c.in-Rule.rule) c.requires.stands.in_table f.2)
          f.3 f.0
          (fine-same c.args.core.now.positions (kind_view c.args.kind)
          (reverse c.args.pending.now.items) c.args.walk.now.trail c.args.walk.now.trail
          c.args.walk.now.settled.items c.next_step.new.self.settled.items c.requires.stands.fine (omega arith)
          (λ k l. refl)
          c.in_ok-step.ensures.more.0 (extends-take c.args.walk.now.settled.items c.next_step.new.self.settled.items
          c.in_ok-step.ensures.more))));
    }

pub returns-in_ok-add_choices-clause-visits : goal.returns-in_ok-add_choices-clause-visits
returns-in_ok-add_choices-clause-visits c =
    let tr = c.in_ok-step.ensures.trail in
    let f = subst (λ s. Follows c.args.core.now.positions (kind_view c.args.kind) c.args.walk.now.trail
    (map signed_view c.next_step.new.self.settled.items) s) c.in-Rule.is c.in_ok-step.ensures.follows in
    let k1 : c.len-in-Rule.result ≡ length c.args.walk.now.trail = c.len-in-Rule.ensures
    ∙ ap (λ u. length u) tr in
    let eq = c.in_ok-add_choices.ensures ∙ ap (λ m. entries m c.len-in-Rule-2.result c.in-Rule.rule 0 c.in-Rule.count
    ++ reverse c.args.pending.now.items) k1 in
    subst (λ s. Visits c.args.core.now.positions (kind_view c.args.kind) c.args.walk.now.trail
    c.args.pending.now.items c.add_choices.new.pending.items c.args.told.now c.with_end.result s) c.in-Rule.is
    (visits c.args.core.now.positions (kind_view c.args.kind) c.args.core.now.ranks c.requires.table
    c.args.walk.now.trail c.in_ok-step.step
    c.args.pending.now.items c.add_choices.new.pending.items c.args.told.now c.with_end.result c.requires.stands.in_table
    c.in_ok-step.ensures.step
    (matches c.args.core.now.positions (kind_view c.args.kind) c.args.walk.now.trail
    (map signed_view c.next_step.new.self.settled.items)
    c.in_ok-step.step c.in_ok-step.ensures.step c.in_ok-step.ensures.follows)
    (counted c.args.core.now.positions (kind_view c.args.kind) c.args.walk.now.trail
    (map signed_view c.next_step.new.self.settled.items) c.in_ok-step.step c.in_ok-step.ensures.follows)
    c.with_end.ensures
    (left-rule c.args.core.now.positions (kind_view c.args.kind) c.args.core.now.ranks c.requires.table
    c.args.walk.now.trail c.len-in-Rule-2.result c.in-Rule.rule c.in-Rule.count
    c.args.pending.now.items c.add_choices.new.pending.items
    (subst (λ s. step_view c.args.core.now.positions (kind_view c.args.kind) (set_of c.args.walk.now.trail) s
    ≡ next c.args.core.now.positions (kind_view c.args.kind) (set_of c.args.walk.now.trail)) c.in-Rule.is
    c.in_ok-step.ensures.step)
    f.1 eq)
    (omega (
      arith,
      c.if-told-len-gt-MOST_ENDS.false,
      c.len.ensures,
      c.choice_count-more.ensures,
      ap choice_count c.in-Rule.is,
      fewer-entries c.args.core.now.positions (kind_view c.args.kind) c.args.walk.now.trail
          c.len-in-Rule-2.result c.in-Rule.rule c.in-Rule.count c.args.pending.now.items c.add_choices.new.pending.items
          eq,
    )))

pub returns-in_default : goal.returns-in_default
returns-in_default c =
    let tr = c.in_ok-step.ensures.trail in
    let m = matches c.args.core.now.positions (kind_view c.args.kind) c.args.walk.now.trail
    (map signed_view c.next_step.new.self.settled.items)
    c.in_ok-step.step c.in_ok-step.ensures.step c.in_ok-step.ensures.follows in
    record {
      limit = tt;
      trail = tr;
      stands = record {
        in_table = subst (λ u. are_in_table c.args.core.now.positions u ≡ true)
            (sym tr) c.requires.stands.in_table;
        covered = c.in_ok-step.ensures.covered;
        fine =
            subst (λ u. AreFine c.args.core.now.positions
            (kind_view c.args.kind) u c.next_step.new.self.settled.items (reverse c.args.pending.now.items))
            (sym tr)
            (fine-same c.args.core.now.positions (kind_view c.args.kind)
            (reverse c.args.pending.now.items) c.args.walk.now.trail c.args.walk.now.trail
            c.args.walk.now.settled.items c.next_step.new.self.settled.items c.requires.stands.fine (omega arith)
            (λ k l. refl)
            c.in_ok-step.ensures.more.0 (extends-take c.args.walk.now.settled.items c.next_step.new.self.settled.items
            c.in_ok-step.ensures.more));
      };
      visits =
          visits c.args.core.now.positions (kind_view c.args.kind) c.args.core.now.ranks c.requires.table
          c.args.walk.now.trail c.in_ok-step.step
          c.args.pending.now.items c.args.pending.now.items c.args.told.now c.with_end.result c.requires.stands.in_table
          c.in_ok-step.ensures.step
          m
          (counted c.args.core.now.positions (kind_view c.args.kind) c.args.walk.now.trail
          (map signed_view c.next_step.new.self.settled.items) c.in_ok-step.step c.in_ok-step.ensures.follows)
          c.with_end.ensures
          (left-end c.args.core.now.positions (kind_view c.args.kind) c.args.core.now.ranks c.requires.table
          c.args.walk.now.trail c.in_ok-step.step c.args.pending.now.items c.in_default.not-Rule m)
          (omega (arith, c.if-told-len-gt-MOST_ENDS.false, c.len.ensures));
    }

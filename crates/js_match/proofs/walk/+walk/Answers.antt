use Rattle.std.proofs.Common.{rules, ◌≡◌, map, ◌+◌, false, not, Some, length, replicate, sym, ap, subst, arith}
use Rattle.patterns.specs.Tree.{trees_of, repeated}
use Rattle.patterns.specs.Match.{Matches, MatchesInTurn, MatchesOne, Repeats}
use Rattle.js_pattern.specs.View.{view}
use Rattle.js_match.specs.Places.{Leads, marked, list_nodes}
use Rattle.js_match.proofs.LeadsLaws as L
use Rattle.js_match.proofs.Rounds as R
use Rattle.js_match.proofs.WalkLaws as W
use Rattle.js_match.proofs.walk.+walk.Goals as goal

pub walk_in_turn-walk-requires : goal.walk_in_turn-walk-requires
walk_in_turn-walk-requires t c = (
  omega (
    arith,
    c.decreases,
    ap list_nodes c.as_slice-re-items.ensures.view,
    W.nodes-item c.as_slice-re-items.result.now c.loop-re.re-index c.re-item.result c.loop-re-test.true c.re-item.is,
  ),
  (search rules, c.requires.short),
)

pub walk_either-walk-requires : goal.walk_either-walk-requires
walk_either-walk-requires t c = (
  omega (
    arith,
    c.decreases,
    ap list_nodes c.as_slice-re-items.ensures.view,
    W.nodes-item c.as_slice-re-items.result.now c.loop-re.re-index c.re-item.result c.loop-re-test.true c.re-item.is,
  ),
  (c.requires.places, c.requires.short),
)

pub walk_in_turn-loop-re-preserved : goal.walk_in_turn-loop-re-preserved
walk_in_turn-loop-re-preserved t c = record {
  within = c.in_ok-places-2.ensures.within;
  rest = W.in_turn_next c.args.word.now c.args.starts.now c.as_slice-re-items.result.now
      (λ ends. Leads (MatchesInTurn (trees_of (map view c.as_slice-re-items.result.now)) c.args.word.now)
      c.args.starts.now ends) c.loop-re.re-index c.re-item.result _ _ c.loop-re-test.true c.re-item.is
      (search rules) c.loop-re.invariant.rest;
}

pub walk_either-loop-re-preserved : goal.walk_either-loop-re-preserved
walk_either-loop-re-preserved t c = record {
  within = W.within_both _ c.loop-re.found.items c.in_ok-ends.ends.items
      c.in_ok-found.found.items c.loop-re.invariant.within
      c.in_ok-ends.ensures.within (search rules);
  rest = W.either_next c.args.word.now c.args.starts.now c.as_slice-re-items.result.now
      (MatchesOne (trees_of (map view c.as_slice-re-items.result.now)) c.args.word.now)
      c.loop-re.re-index c.re-item.result c.loop-re.found.items c.in_ok-ends.ends.items c.in_ok-found.found.items
      c.loop-re-test.true c.re-item.is c.in_ok-ends.ensures.leads (search rules) c.loop-re.invariant.rest;
}

pub walk_repeat-returns-in-None-clause-leads : goal.walk_repeat-returns-in-None-clause-leads
walk_repeat-returns-in-None-clause-leads t c =
    rw c.in-None.is (W.ok_then c.walk_more.result _ _
    (λ ends l. L.leads_repeated (view c.args.re.now) c.args.word.now c.args.low c.args.starts.now
    c.in_ok-after.after.items ends.items c.in_ok-after.ensures.leads l) (search rules))

pub walk_repeat-returns-clause-leads : goal.walk_repeat-returns-clause-leads
walk_repeat-returns-clause-leads t c =
    W.ok_then c.walk_more-in-Some-2.result _ _
    (λ ends l. W.seen_as (repeated (view c.args.re.now) c.args.low c.args.high)
    (repeated (view c.args.re.now) c.args.low (Some c.in-Some-2.most)) c.args.word.now _ _ (search rules)
    (L.leads_up_to (view c.args.re.now) c.args.word.now c.args.low c.in-Some-2.most c.args.starts.now
    c.in_ok-after.after.items ends.items (search rules) c.in_ok-after.ensures.leads l)) (search rules)

pub walk_either-returns-clause-leads : goal.walk_either-returns-clause-leads
walk_either-returns-clause-leads t c =
    subst (λ ts. Leads (MatchesOne ts c.args.word.now) c.args.starts.now c.loop-re.found.items)
    c.as_slice-re-items.ensures.view
    (W.either_done c.args.word.now c.args.starts.now c.as_slice-re-items.result.now
    (MatchesOne (trees_of (map view c.as_slice-re-items.result.now)) c.args.word.now) c.loop-re.re-index
    c.loop-re.found.items (omega (arith, c.loop-re-test.false)) c.loop-re.invariant.rest)

pub walk_times-returns-then-eq-clause-leads : goal.walk_times-returns-then-eq-clause-leads
walk_times-returns-then-eq-clause-leads t c =
    W.times_still (Matches (view c.args.re.now) c.args.word.now)
    (λ ends. Leads (Repeats (Matches (view c.args.re.now) c.args.word.now) c.args.times) c.args.starts.now ends)
    _ c.loop-round.places.items c.in_ok-next.next.items (search rules) (search rules) c.loop-round.invariant.rest

pub walk_times-loop-round-preserved : goal.walk_times-loop-round-preserved
walk_times-loop-round-preserved t c = record {
  within = c.in_ok-next.ensures.within;
  rest = W.times_next (Matches (view c.args.re.now) c.args.word.now)
      (λ ends. Leads (Repeats (Matches (view c.args.re.now) c.args.word.now) c.args.times) c.args.starts.now ends)
      c.args.times c.loop-round.round c.loop-round.places.items c.in_ok-next.next.items c.loop-round-test.true
      (search rules) c.loop-round.invariant.rest;
}

pub walk_times-returns-clause-leads : goal.walk_times-returns-clause-leads
walk_times-returns-clause-leads t c =
    W.times_done (Matches (view c.args.re.now) c.args.word.now)
    (λ ends. Leads (Repeats (Matches (view c.args.re.now) c.args.word.now) c.args.times) c.args.starts.now ends)
    c.args.times c.loop-round.round c.loop-round.places.items (omega (
      arith,
      c.loop-round-test.false,
    )) c.loop-round.invariant.rest

pub walk_more-loop-left-init : goal.walk_more-loop-left-init
walk_more-loop-left-init t c =
    let none : c.in_ok-marks.marks.items ≡ replicate (length c.args.word.now + 1) false = search rules in
    record {
      size = search rules;
      within = W.within_new _ c.args.starts.now c.in_ok-fresh.fresh.items _
          c.requires.places c.in_ok-fresh.ensures.fresh;
      round = R.round-first (Matches (view c.args.re.now) c.args.word.now) c.args.most c.args.starts.now
          c.mark_new.new.marks.items c.in_ok-fresh.fresh.items
          (W.marks_first _ _ _ _ none (search rules))
          (W.fresh_first _ _ _ _ none c.in_ok-fresh.ensures.fresh);
    }

pub walk_more-loop-left-preserved : goal.walk_more-loop-left-preserved
walk_more-loop-left-preserved t c =
    record {
      size = search rules;
      within = W.within_new _ c.in_ok-next.next.items c.in_ok-fresh-2.fresh.items
          (λ j. not (marked c.loop-left.marks.items j)) c.in_ok-next.ensures.within
          (search rules);
      round = subst (λ left. R.IsRound (Matches (view c.args.re.now) c.args.word.now) c.args.most c.args.starts.now left
          c.mark_new-in-loop-left.new.marks.items c.in_ok-fresh-2.fresh.items) (sym c.one_less-left.ensures)
          (R.round-next (Matches (view c.args.re.now) c.args.word.now) c.args.most c.args.starts.now c.loop-left.left
          c.loop-left.marks.items c.loop-left.fresh.items c.loop-left.invariant.round c.in_ok-next.next.items
          c.mark_new-in-loop-left.new.marks.items c.in_ok-fresh-2.fresh.items
          (R.open-left c.loop-left.fresh.items c.loop-left.left (search rules)) (search rules) (search rules)
          (search rules));
    }

pub walk_more-returns-clause-within : goal.walk_more-returns-clause-within
walk_more-returns-clause-within t c =
    W.ok_then c.collect.result _ _ (λ places e. W.within_marked _ places.items c.loop-left.marks.items
    c.loop-left.invariant.size e) (search rules)

pub walk_more-returns-clause-leads : goal.walk_more-returns-clause-leads
walk_more-returns-clause-leads t c =
    W.ok_then c.collect.result _ _ (λ places e.
    R.round-last (Matches (view c.args.re.now) c.args.word.now) c.args.most c.args.starts.now c.loop-left.left
    c.loop-left.marks.items c.loop-left.fresh.items c.loop-left.invariant.round places.items
    (R.open-not c.loop-left.fresh.items c.loop-left.left (search rules)) e)
    (search rules)

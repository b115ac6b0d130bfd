-- Each step by the least that was found for it.
use Rattle.std.proofs.Common.{map, not, option_map, subst}
use Rattle.goals.specs.Choices.{choices}
use Rattle.goals.specs.Tree.{has_choice}
use Rattle.js_tableau.specs.Walks.{IsLeast, SettlesAfter}
use Rattle.js_algebra.specs.View.{signed_view, kind_view}
use Rattle.js_tableau.proofs.Settling.{member_in_table}
use Rattle.js_tableau.proofs.Nexts.{least_from-is, next-clash, next-wrong, next-rule, next-saturated, all_clean}
use Rattle.js_tableau.proofs.walk.Walk.next_step.Goals as goal

pub returns-in-Some-clause-step : goal.returns-in-Some-clause-step
returns-in-Some-clause-step c =
    next-clash c.args.core.now.positions (kind_view c.args.kind) c.args.self.now.trail c.args.from
    c.requires.clean (signed_view c.in-Some.x)
    (least_from-is _ _ _ c.in-Some.ensures)

pub returns-in-Some-least_wrong-clause-step : goal.returns-in-Some-least_wrong-clause-step
returns-in-Some-least_wrong-clause-step c =
    next-wrong c.args.core.now.positions (kind_view c.args.kind) c.args.self.now.trail c.args.from
    c.requires.clean (signed_view c.in-Some-least_wrong.x)
    (least_from-is _ _ _ c.in_default.ensures) (least_from-is _ _ _ c.in-Some-least_wrong.ensures)

pub choice_count-requires : goal.choice_count-requires
choice_count-requires c = member_in_table _ c.args.self.now.trail
    (signed_view c.in-Some-2.x) c.requires.in_table
    (subst (λ o. IsLeast (λ y. not (has_choice c.args.self.now.trail
    (choices c.args.core.now.positions (kind_view c.args.kind) y))) c.args.self.now.trail
    (option_map signed_view o)) c.in-Some-2.is c.in_ok-x.ensures.least).0

pub returns-in-Some-2-clause-step : goal.returns-in-Some-2-clause-step
returns-in-Some-2-clause-step c =
    next-rule c.args.core.now.positions (kind_view c.args.kind) c.args.self.now.trail c.args.from
    c.requires.clean (signed_view c.in-Some-2.x)
    (least_from-is _ _ _ c.in_default.ensures) (least_from-is _ _ _ c.in_default-least_wrong.ensures)
    (subst (λ o. IsLeast (λ y. not (has_choice c.args.self.now.trail
    (choices c.args.core.now.positions (kind_view c.args.kind) y))) c.args.self.now.trail
    (option_map signed_view o)) c.in-Some-2.is c.in_ok-x.ensures.least)

pub returns-in-Some-2-clause-follows : goal.returns-in-Some-2-clause-follows
returns-in-Some-2-clause-follows c = (
  subst (λ o. SettlesAfter c.args.core.now.positions (kind_view c.args.kind) c.args.self.now.trail
      (map signed_view c.least_unsettled.new.self.settled.items) (option_map signed_view o)) c.in-Some-2.is
      c.in_ok-x.ensures.settled,
  c.choice_count.ensures,
  (subst (λ o. IsLeast (λ y. not (has_choice c.args.self.now.trail
      (choices c.args.core.now.positions (kind_view c.args.kind) y))) c.args.self.now.trail
      (option_map signed_view o)) c.in-Some-2.is c.in_ok-x.ensures.least).0,
  all_clean c.args.core.now.positions (kind_view c.args.kind) c.args.self.now.trail c.args.from c.requires.clean
      (least_from-is _ _ _ c.in_default.ensures) (least_from-is _ _ _ c.in_default-least_wrong.ensures),
)

pub returns-in-None-clause-step : goal.returns-in-None-clause-step
returns-in-None-clause-step c =
    next-saturated c.args.core.now.positions (kind_view c.args.kind) c.args.self.now.trail c.args.from
    c.requires.clean
    (least_from-is _ _ _ c.in_default.ensures) (least_from-is _ _ _ c.in_default-least_wrong.ensures)
    (subst (λ o. IsLeast (λ y. not (has_choice c.args.self.now.trail
    (choices c.args.core.now.positions (kind_view c.args.kind) y))) c.args.self.now.trail
    (option_map signed_view o)) c.in-None.is c.in_ok-x.ensures.least)

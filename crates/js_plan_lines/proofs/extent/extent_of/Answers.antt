-- That of the last server.
use Rattle.std.proofs.Common.{arith}
use Rattle.js_plans.proofs.Namings.{cells-few}
use Rattle.js_plan_lines.proofs.Extents.{last-extent, last-within}
use Rattle.js_plan_lines.proofs.extent.extent_of.Goals as goal

pub bounds-extents-before : goal.bounds-extents-before
bounds-extents-before c =
    last-within c.args.path.now c.in-Some.before.now c.in-Some.field-0-0.now c.args.extents.now
    c.in-Some.ensures.cases.0 c.requires

pub returns-in-Some-clause-used : goal.returns-in-Some-clause-used
returns-in-Some-clause-used c =
    (last-extent c.args.path.now c.in-Some.before.now c.in-Some.field-0-0.now c.args.extents.now
    (record { used = 0; members = 0 }) c.in-Some.ensures.cases.0 c.requires).used

pub returns-in-Some-clause-members : goal.returns-in-Some-clause-members
returns-in-Some-clause-members c =
    (last-extent c.args.path.now c.in-Some.before.now c.in-Some.field-0-0.now c.args.extents.now
    (record { used = 0; members = 0 }) c.in-Some.ensures.cases.0 c.requires).members

pub returns-in-Some-clause-few : goal.returns-in-Some-clause-few
returns-in-Some-clause-few c = omega (
  arith,
  (last-extent c.args.path.now c.in-Some.before.now c.in-Some.field-0-0.now c.args.extents.now
      (record { used = 0; members = 0 }) c.in-Some.ensures.cases.0 c.requires).members,
  cells-few c.args.path.now,
)

pub returns-in-Some-clause-bound : goal.returns-in-Some-clause-bound
returns-in-Some-clause-bound c =
    (last-extent c.args.path.now c.in-Some.before.now c.in-Some.field-0-0.now c.args.extents.now
    (record { used = 0; members = 0 }) c.in-Some.ensures.cases.0 c.requires).bound
